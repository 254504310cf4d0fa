use Rattle.std.proofs.Common.{◌≡◌, ◌∙◌, List, ap, sym, subst}
use Rattle.std.specs.Prelude.{IfOk, IsTrue}
use Rattle.terms.specs.Types.{Id}
use Rattle.terms.specs.Choice.{counting}
use Rattle.terms.specs.Restore.{Restoring, restore_candidates}
use Rattle.undo.specs.Scopes.{restoring}
use Rattle.undo.specs.Whole.{GoesWhole}
use Rattle.undo.proofs.Settings.{restoring_is}
use Rattle.undo.proofs.whole.takes_all.Goals as goal

pub returns : goal.returns
returns c =
    let g = c.args.global.now in
    let zone = c.args.zone.now in
    let accepted = c.args.accepted.now in
    let vers = c.in_ok-vers.vers in
    let ids = c.args.candidates.now.ids in
    let setting = restoring_is vers g zone accepted c.in_ok-vers.ensures.global
    (c.in_ok-vers.ensures.counting ∙ ap (counting g zone) c.new-none.ensures) in
    subst (λ r. IfOk c.is_whole.result (λ all. IsTrue all → (list : List Id) → ids ≡ restore_candidates r list
    → GoesWhole r list ids)) setting c.is_whole.ensures
