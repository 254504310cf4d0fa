use Rattle.std.proofs.Common.{rules, arith, length, subst}
use Rattle.std.specs.List.{zip}
use Rattle.std.proofs.lemmas.List.{length_push, take_all}
use Rattle.std.proofs.lemmas.Slice.Zip.{length-zip, zip_end, zip_turn}
use Rattle.zones_maps.specs.Delta.{element_stood}
use Rattle.store_rows.proofs.CallLemmas.{follows_err}
use Rattle.store_rows.proofs.InsideLemmas.{continues_then}
use Rattle.store_zones.specs.Zones.{ChangesZone}
use Rattle.store.specs.Calls.{element_calls, new_element}
use Rattle.store.specs.Writes.{EditsElements, others}
use Rattle.store.proofs.DeltaLemmas.{elements_go_on}
use Rattle.store.proofs.EditLoop.{one_more, one_failed, all_written, one_pair, known_at}
use Rattle.store.proofs.delta.replace_or_remove_elements.Goals as goal

pub loop-edit-preserved : goal.loop-edit-preserved
loop-edit-preserved g c =
    let s = g.S.Store in
    let old = c.args.tx.now.conn.now in
    let mid = c.loop-edit.tx.conn.now in
    let new = c.replace_or_remove_element.new.tx.conn.now in
    let edits = c.args.edits.now in
    let stood = c.args.elements_existed.now in
    let edit = c.in-Some.edit.now in
    let before = c.in-Some.existed.now in
    let done = length c.loop-edit.yielded in
    let more = length_push c.loop-edit.yielded (c.in-Some.edit, c.in-Some.existed) in
    let turn = zip_turn edits stood c.loop-edit.yielded c.into_iter-edit-iterator.result c.loop-edit.edit-iterator
    c.next.new.self c.next.result (search rules) (search rules) c.loop-edit.yielded_by
    (c.in-Some.edit, c.in-Some.existed) c.in-Some.is c.next.ensures.steps in
    let pair = one_pair edits stood done edit before turn.0 turn.2 turn.1 turn.3 in
    record {
      continues = continues_then s c.args.tx.now c.loop-edit.tx c.replace_or_remove_element.new.tx
          c.loop-edit.invariant.continues
          c.replace_or_remove_element.ensures.continues;
      calls = rw more (one_more s (element_calls c.args.name) (zip edits stood) done old mid new (edit, before) pair.0
          pair.1 c.loop-edit.invariant.continues.inside c.replace_or_remove_element.ensures.continues.inside
          c.loop-edit.invariant.calls c.in_ok-replace_or_remove_element.was c.replace_or_remove_element.ensures.calls);
      changes = λ zone known. rw more (elements_go_on s c.args.name zone old mid new (zip edits stood) done
          (edit, before) pair.0 pair.1 c.replace_or_remove_element.ensures.continues.inside
          (c.loop-edit.invariant.changes zone known)
          (c.in_ok-replace_or_remove_element.ensures.ok zone (known_at edits stood done edit before turn.0 turn.2
          (element_stood zone) known turn.3)));
    }

pub returns-clause-calls : goal.returns-clause-calls
returns-clause-calls g c =
    let edits = c.args.edits.now in
    let stood = c.args.elements_existed.now in
    let end = zip_end edits stood c.loop-edit.yielded c.into_iter-edit-iterator.result c.loop-edit.edit-iterator
    c.next.new.self c.next.result (search rules) (search rules) c.loop-edit.yielded_by c.in-None.is c.next.ensures.steps
    in
    all_written g.S.Store (element_calls c.args.name) (zip edits stood) (length c.loop-edit.yielded) _ _
    (omega (arith, end, length-zip edits stood)) c.loop-edit.invariant.calls

pub returns-clause-ok : goal.returns-clause-ok
returns-clause-ok g c zone known =
    let edits = c.args.edits.now in
    let stood = c.args.elements_existed.now in
    let done = length c.loop-edit.yielded in
    let end = zip_end edits stood c.loop-edit.yielded c.into_iter-edit-iterator.result c.loop-edit.edit-iterator
    c.next.new.self c.next.result (search rules) (search rules) c.loop-edit.yielded_by c.in-None.is c.next.ensures.steps
    in
    subst (λ all. ChangesZone g.S.Store c.args.tx.now.conn.now c.loop-edit.tx.conn.now c.args.name
    (EditsElements zone (others new_element all)))
    (take_all done (zip edits stood) (omega (arith, end, length-zip edits stood)))
    (c.loop-edit.invariant.changes zone known)

pub returns-in_err-replace_or_remove_element-clause-calls : goal.returns-in_err-replace_or_remove_element-clause-calls
returns-in_err-replace_or_remove_element-clause-calls g c =
    let edits = c.args.edits.now in
    let stood = c.args.elements_existed.now in
    let edit = c.in-Some.edit.now in
    let before = c.in-Some.existed.now in
    let done = length c.loop-edit.yielded in
    let turn = zip_turn edits stood c.loop-edit.yielded c.into_iter-edit-iterator.result c.loop-edit.edit-iterator
    c.next.new.self c.next.result (search rules) (search rules) c.loop-edit.yielded_by
    (c.in-Some.edit, c.in-Some.existed) c.in-Some.is c.next.ensures.steps in
    let pair = one_pair edits stood done edit before turn.0 turn.2 turn.1 turn.3 in
    one_failed g.S.Store (element_calls c.args.name) (zip edits stood) done c.args.tx.now.conn.now
    c.loop-edit.tx.conn.now c.replace_or_remove_element.new.tx.conn.now c.replace_or_remove_element.result
    c.from_residual.result
    (edit, before) pair.0 pair.1 c.loop-edit.invariant.continues.inside
    c.replace_or_remove_element.ensures.continues.inside
    c.loop-edit.invariant.calls (search rules)
    (follows_err c.replace_or_remove_element.result _ _ c.in_err-replace_or_remove_element.was
    c.from_residual.ensures.1)
    c.replace_or_remove_element.ensures.calls
