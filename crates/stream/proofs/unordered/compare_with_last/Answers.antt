use Rattle.std.proofs.Common.{◌∙◌, inr, sym, subst, true≢false}
use Rattle.std.specs.BTreeMap.{get}
use Rattle.terms.specs.Lookups.{change_key}
use Rattle.terms.specs.Types.{Change}
use Rattle.sysmods.specs.Choices.{choice}
use Rattle.stream.specs.Comparing.{part_cmp, Compares}
use Rattle.stream.proofs.unordered.compare_with_last.Goals as goal

pub returns-clause-found : goal.returns-clause-found
returns-clause-found c =
    let before = rw c.in-Some.is at c.in_ok-before.ensures.old in
    subst (λ (h : Change). Compares (choice c.args.overs.now) (change_key h, c.args.owner) c.args.id
    (get part_cmp c.args.last.now (change_key h, c.args.owner)) c.args.found.now.items c.push.new.self.items)
    c.change.view_is
    (rw (sym before) (inr (
      λ over. true≢false (sym (c.in_ok-over.ensures.over.1 over) ∙ c.if-branch.false),
      c.in_ok-push.ensures.items,
    )))
