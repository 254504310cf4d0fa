use Rattle.std.proofs.Common.{◌≡◌, ◌∙◌, List, sym}
use Rattle.std.proofs.lemmas.Result.{IfOk-weaker}
use Rattle.std.specs.Prelude.{IsTrue}
use Rattle.terms.specs.Types.{Id}
use Rattle.terms.specs.Restore.{restore_candidates}
use Rattle.undo.specs.Scopes.{restoring_of}
use Rattle.undo.specs.Whole.{GoesWhole, HasDependents}
use Rattle.undo.proofs.GoingWhole.{goes_whole}
use Rattle.undo.proofs.whole.is_whole.Goals as goal

pub returns : goal.returns
returns c =
    let r = restoring_of c.args.scope.now in
    let ids = c.args.ids.now in
    IfOk-weaker c.has_dependents.result (λ has. IsTrue has → HasDependents r ids)
    (λ whole. IsTrue whole → (list : List Id) → ids ≡ restore_candidates r list → GoesWhole r list ids)
    (λ has within on list are. goes_whole r c.args.scope.now.form ids
    (rw c.as_slice.ensures.items at (sym c.all_pass.ensures ∙ c.if-not-all_pass.false))
    (c.in_ok-is_changed_outside.ensures c.if-branch.false) (within on) list are)
    c.has_dependents.ensures
