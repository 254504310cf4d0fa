use Rattle.std.proofs.Common.{◌≡◌, ◌∙◌, List, All, IsTrue, subst, sym}
use Rattle.std.proofs.lemmas.List.Elements.{filter_passes}
use Rattle.std.proofs.lemmas.Result.{IfOk-weaker}
use Rattle.terms.specs.Types.{Id}
use Rattle.terms.specs.Lookups.{is_applied, is_in}
use Rattle.terms.specs.Needs.{Serves}
use Rattle.terms.specs.Restore.{FailsRestore, MayBeRestored, NeedsInRestore, restore_candidates}
use Rattle.judge_system.proofs.Judging.{decided_of}
use Rattle.undo.specs.Scopes.{restoring_from}
use Rattle.smpe_service.specs.RestoreDecided.{IsRestoreDecided}
use Rattle.smpe_service.proofs.AllKept.{all_kept}
use Rattle.smpe_service.proofs.restored.decide_candidates.Goals as goal

pub takes_all-requires : goal.takes_all-requires
takes_all-requires c =
    let zone = c.args.zone.now in
    subst (All (λ x. IsTrue (is_applied zone x))) (sym c.requires.1) (filter_passes (is_applied zone) c.requires.0)

pub restore_system-requires : goal.restore_system-requires
restore_system-requires c =
    let zone = c.args.zone.now in
    subst (All (λ x. IsTrue (is_applied zone x))) (sym c.requires.1) (filter_passes (is_applied zone) c.requires.0)

pub returns-then-branch : goal.returns-then-branch
returns-then-branch c =
    let r = restoring_from c.args.global.now c.args.zone.now c.args.accepted.now in
    let cands = c.args.candidates.now.ids in
    IfOk-weaker c.keep_all.result _
    (λ d. (list : List Id) → cands ≡ restore_candidates r list → IsRestoreDecided r list cands d.kept d.failed.items)
    (λ d both list are. all_kept r list cands c.keep_all.ensures.rising are
    (c.in_ok-takes_all.ensures c.if-branch.true list are) d.kept d.failed.items both.0 both.1)
    c.keep_all.ensures.all

pub returns : goal.returns
returns c =
    let r = restoring_from c.args.global.now c.args.zone.now c.args.accepted.now in
    let cands = c.args.candidates.now.ids in
    IfOk-weaker c.decide.result _ (λ d. (list : List Id) → cands ≡ restore_candidates r list
    → IsRestoreDecided r list cands d.kept d.failed.items)
    (λ d solved list same. decided_of (FailsRestore r) (MayBeRestored r list) (NeedsInRestore r (is_in list))
    (Serves r.choice) cands c.in_ok-judged.judged (c.in_ok-judged.ensures.judged list same)
    solved.flags solved.are_kept d.kept d.failed.items solved.decided)
    c.decide.ensures
