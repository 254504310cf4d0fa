use Rattle.std.proofs.Common.{take, arith}
use Rattle.std.proofs.lemmas.List.{take_all}
use Rattle.store_rows.proofs.InsideLemmas.{on_ok, continues_then}
use Rattle.store.specs.Calls.{progress_of}
use Rattle.store.proofs.Waiting.{edits_go_on, edits_stop, edits_end, edits_changed}
use Rattle.store.proofs.global_edits.write_edits.Goals as goal

pub loop-edit-preserved : goal.loop-edit-preserved
loop-edit-preserved g c =
    let stay = c.loop-edit.invariant in
    let waiting = (progress_of c.args.stated.now (take c.loop-edit.edit-index c.args.edits.now)).1 in
    record {
      continues = continues_then g.S.Store c.args.tx.now c.loop-edit.tx c.write_edit.new.tx stay.continues
          c.write_edit.ensures.continues;
      go = edits_go_on g.S.Store c.args.stated.now c.args.edits.now c.loop-edit.edit-index _ (omega arith)
          c.edit-item.is stay.continues.inside c.write_edit.ensures.continues.inside stay.go c.in_ok-write_edit.was
          (c.write_edit.ensures.goes waiting stay.go.waits);
    }

pub returns-clause-calls : goal.returns-clause-calls
returns-clause-calls g c =
    let stay = c.loop-edit.invariant in
    let edits = c.args.edits.now in
    let go = rw (take_all c.loop-edit.edit-index edits (omega arith)) at stay.go in
    edits_end g.S.Store c.args.stated.now edits c.insert_sysmods.result stay.continues.inside
    c.insert_sysmods.ensures.continues.inside go
    (c.insert_sysmods.ensures.calls (progress_of c.args.stated.now edits).1 go.waits)

pub returns-clause-ok : goal.returns-clause-ok
returns-clause-ok g c =
    let stay = c.loop-edit.invariant in
    let stated = c.args.stated.now in
    let edits = c.args.edits.now in
    let go = rw (take_all c.loop-edit.edit-index edits (omega arith)) at stay.go in
    let waiting = (progress_of stated edits).1 in
    edits_changed g.S.Store stated edits c.insert_sysmods.result c.insert_sysmods.ensures.continues.inside go
    (on_ok c.insert_sysmods.result _ _ (λ adds. adds waiting go.waits) c.insert_sysmods.ensures.stands)

pub returns-in_err-write_edit-clause-calls : goal.returns-in_err-write_edit-clause-calls
returns-in_err-write_edit-clause-calls g c =
    let stay = c.loop-edit.invariant in
    let waiting = (progress_of c.args.stated.now (take c.loop-edit.edit-index c.args.edits.now)).1 in
    edits_stop g.S.Store c.args.stated.now c.args.edits.now c.loop-edit.edit-index _ c.from_residual.result
    (omega arith) c.edit-item.is stay.continues.inside c.write_edit.ensures.continues.inside stay.go
    c.in_err-write_edit.was c.from_residual.ensures.1 (c.write_edit.ensures.goes waiting stay.go.waits)
