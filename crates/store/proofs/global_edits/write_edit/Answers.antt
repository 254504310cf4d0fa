use Rattle.std.proofs.Common.{◌≡◌, ◌∙◌, [], Some, refl, sym, ap, not}
use Rattle.std.specs.Prelude.{option_copied, filter}
use Rattle.terms.specs.Global.{has_key, hold_cmp}
use Rattle.terms.specs.Lookups.{sysmod_of}
use Rattle.terms.specs.Rising.{with_item}
use Rattle.terms.specs.Types.{Hold}
use Rattle.store_rows.proofs.InsideLemmas.{on_ok}
use Rattle.store_sysmods.specs.Calls.{replace_sources_calls, remove_sysmod_calls}
use Rattle.store_sysmods.specs.Holds.{upsert_hold_calls, remove_hold_calls}
use Rattle.store.proofs.GlobalLemmas.{hold_put, hold_removed}
use Rattle.store.proofs.Waiting.{waits_as, waits_behind, waits_beside, waits_found, waits_stops}
use Rattle.store.proofs.global_edits.write_edit.Goals as goal

pub returns-in-PutHold-clause-goes : goal.returns-in-PutHold-clause-goes
returns-in-PutHold-clause-goes g c ss are =
    let h = c.in-PutHold.hold in
    rw c.in-PutHold.is (waits_beside g.S.Store ss (λ holds. with_item hold_cmp (λ (o : Hold). o) holds h)
    (upsert_hold_calls h) _ _ _ c.upsert_hold.result are c.upsert_hold.ensures.calls
    (on_ok c.upsert_hold.result _ _ (hold_put g.S.Store c.args.tx.now.conn.now c.upsert_hold.new.tx.conn.now h)
    c.upsert_hold.ensures.ok))

pub returns-in-RemoveHold-clause-goes : goal.returns-in-RemoveHold-clause-goes
returns-in-RemoveHold-clause-goes g c ss are =
    let k = c.in-RemoveHold in
    rw k.is (waits_beside g.S.Store ss (λ holds. filter (λ h. not (has_key k.id k.kind k.reason h)) holds)
    (remove_hold_calls k.id k.kind k.reason) _ _ _ c.remove_hold.result are c.remove_hold.ensures.calls
    (on_ok c.remove_hold.result _ _ (hold_removed g.S.Store c.args.tx.now.conn.now c.remove_hold.new.tx.conn.now
    k.id k.kind k.reason) c.remove_hold.ensures.ok))

pub returns-in-Some-clause-goes : goal.returns-in-Some-clause-goes
returns-in-Some-clause-goes g c ss are =
    let k = c.in-InsertSysmod in
    let there : sysmod_of c.args.stated.now k.id ≡ Some c.in-Some.sysmod.now =
    sym c.get.ensures ∙ ap option_copied c.in-Some.is in
    rw k.is (waits_found g.S.Store c.args.stated.now k.id k.sources.items c.in-Some.sysmod.now there
    (rw c.as_slice.ensures.value at (c.add_waiting.ensures.goes ss are)))

pub returns-in_ok-write_waiting-in-ReplaceSources-clause-goes :
    goal.returns-in_ok-write_waiting-in-ReplaceSources-clause-goes
returns-in_ok-write_waiting-in-ReplaceSources-clause-goes g c ss are =
    let k = c.in-ReplaceSources in
    rw k.is (waits_as g.S.Store refl (λ global fits. fits.1) (λ global. refl)
    (waits_behind g.S.Store (replace_sources_calls k.sysmod) _ _ c.replace_sources.result
    c.in_ok-write_waiting-in-ReplaceSources.was c.write_waiting.ensures.continues.inside
    c.replace_sources.ensures.continues.inside (c.write_waiting.ensures.goes ss are) c.replace_sources.ensures.calls
    c.replace_sources.ensures.stands))

pub returns-in_ok-write_waiting-in-RemoveSysmod-clause-goes :
    goal.returns-in_ok-write_waiting-in-RemoveSysmod-clause-goes
returns-in_ok-write_waiting-in-RemoveSysmod-clause-goes g c ss are =
    let k = c.in-RemoveSysmod in
    rw k.is (waits_behind g.S.Store (remove_sysmod_calls k.id) _ _ c.remove_sysmod.result
    c.in_ok-write_waiting-in-RemoveSysmod.was c.write_waiting-in-RemoveSysmod.ensures.continues.inside
    c.remove_sysmod.ensures.continues.inside (c.write_waiting-in-RemoveSysmod.ensures.goes ss are)
    c.remove_sysmod.ensures.calls c.remove_sysmod.ensures.stands)

pub returns-in_err-write_waiting-in-ReplaceSources-clause-goes :
    goal.returns-in_err-write_waiting-in-ReplaceSources-clause-goes
returns-in_err-write_waiting-in-ReplaceSources-clause-goes g c ss are =
    rw c.in-ReplaceSources.is (waits_stops g.S.Store (replace_sources_calls c.in-ReplaceSources.sysmod) []
    c.from_residual.result c.in_err-write_waiting-in-ReplaceSources.was c.from_residual.ensures.1
    (c.write_waiting.ensures.goes ss are))

pub returns-in_err-write_waiting-in-RemoveSysmod-clause-goes :
    goal.returns-in_err-write_waiting-in-RemoveSysmod-clause-goes
returns-in_err-write_waiting-in-RemoveSysmod-clause-goes g c ss are =
    rw c.in-RemoveSysmod.is (waits_stops g.S.Store (remove_sysmod_calls c.in-RemoveSysmod.id) []
    c.from_residual-in_err-write_waiting-in-RemoveSysmod.result c.in_err-write_waiting-in-RemoveSysmod.was
    c.from_residual-in_err-write_waiting-in-RemoveSysmod.ensures.1
    (c.write_waiting-in-RemoveSysmod.ensures.goes ss are))
