use Rattle.std.proofs.Common.{refl, sym, ◌∙◌, subst}
use Rattle.sysmods.specs.Choices.{choice}
use Rattle.sysmods.specs.Overs.{AreOver}
use Rattle.sysmods.proofs.KnownPairs.{known_over, more_over}
use Rattle.sysmods.proofs.overs.Overs.over.Goals as goal

pub returns-then-is_known_over-clause-over : goal.returns-then-is_known_over-clause-over
returns-then-is_known_over-clause-over c =
    rw (← c.self.view_is) (
      λ on. known_over (choice c.self.inside.vers.now) c.self.inside.known.keys c.self.invariant.known c.args.x c.args.z
          (sym c.is_known_over.ensures ∙ c.if-is_known_over.true),
      λ over. refl,
    )

pub returns-then-not-branch-clause-over : goal.returns-then-not-branch-clause-over
returns-then-not-branch-clause-over c = rw (← c.self.view_is, ← c.if-not-branch.true) c.in_ok-is_over.ensures.over

pub invariant_of-self-in_err-insert : goal.invariant_of-self-in_err-insert
invariant_of-self-in_err-insert c = record {
  known = subst (AreOver (choice c.self.inside.vers.now)) (sym c.in_err-insert.ensures.err) c.self.invariant.known;
  graph = c.in_ok-is_over.ensures.graph;
}

pub invariant_of-self-2 : goal.invariant_of-self-2
invariant_of-self-2 c = record {
  known = more_over (choice c.self.inside.vers.now) c.self.inside.known.keys c.self.invariant.known c.args.x c.args.z
      c.insert.new.self.keys (c.in_ok-is_over.ensures.over.0 search) c.in_ok-insert.ensures.keys;
  graph = c.in_ok-is_over.ensures.graph;
}

pub returns-clause-over : goal.returns-clause-over
returns-clause-over c = rw (← c.self.view_is) (λ on. c.in_ok-is_over.ensures.over.0 search, λ over. refl)
