use Rattle.std.proofs.Common.{◌∙◌, subst, sym, take_all, arith, Contains}
use Rattle.std.specs.Prelude.{◌↔◌}
use Rattle.std.proofs.lemmas.Result.{IfOk-weaker}
use Rattle.sysmods.specs.Seen.{AddsAll}
use Rattle.sysmods.proofs.Growth.{adds_next}
use Rattle.report.proofs.Superseding.{searching_next, searching_last, Belongs}
use Rattle.report.proofs.superseders.id_and_superseders.Goals as goal

pub loop-by-preserved : goal.loop-by-preserved
loop-by-preserved c =
    adds_next _ _ _ _ _ _ (omega arith) c.by-item.is c.in_ok-insert-2.ensures.keys c.loop-by.invariant

pub loop-searched-preserved : goal.loop-searched-preserved
loop-searched-preserved c =
    let old = c.loop-searched.seen.keys in
    let new = c.loop-by.seen.keys in
    searching_next c.args.vers.now c.args.id old new c.loop-searched.searched c.index-as_slice-searched.result
    (omega arith)
    (rw c.as_slice.ensures.keys at c.index-as_slice-searched.is)
    (subst (λ l. AddsAll old l new) (take_all c.loop-by.by-index c.as_slice-by-items.result.now (omega arith)
    ∙ c.as_slice-by-items.ensures.value ∙ c.in_ok-superseders.ensures) c.loop-by.invariant) c.loop-searched.invariant

pub returns : goal.returns
returns c =
    IfOk-weaker c.from_slice.result _ _ (λ ids are y.
    subst (λ l. Contains l y ↔ Belongs c.args.vers.now c.args.id y) (sym (are ∙ c.as_slice-2.ensures.keys))
    (searching_last c.args.vers.now c.args.id c.loop-searched.seen.keys c.loop-searched.searched (omega arith)
    c.loop-searched.invariant y)) c.from_slice.ensures.items
