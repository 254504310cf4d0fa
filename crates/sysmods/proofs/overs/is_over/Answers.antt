use Rattle.std.proofs.Common.{refl, sym, ◌∙◌}
use Rattle.terms.proofs.Ids.{Contains_from_is_in}
use Rattle.terms.proofs.Leads.{reaches_named}
use Rattle.terms.specs.Over.{names}
use Rattle.sysmods.specs.Choices.{choice}
use Rattle.sysmods.proofs.KnownPairs.{follows_over}
use Rattle.sysmods.proofs.overs.is_over.Goals as goal

pub returns-then-names-clause-over : goal.returns-then-names-clause-over
returns-then-names-clause-over c =
    let named = names (choice c.args.vers.now) in (
      λ on. reaches_named named c.args.x c.args.z
          (Contains_from_is_in (named c.args.x) c.args.z (sym c.names.ensures ∙ c.if-names.true)),
      λ over. refl,
    )

pub returns-then-names_any_known_over-clause-over : goal.returns-then-names_any_known_over-clause-over
returns-then-names_any_known_over-clause-over c = (
  λ on. follows_over (choice c.args.vers.now) c.args.known.now.keys c.requires.known c.args.x c.args.z
      (sym c.names_any_known_over.ensures ∙ c.if-names_any_known_over.true),
  λ over. refl,
)
