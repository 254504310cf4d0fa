use Rattle.std.proofs.Common.{◌≡◌, map, subst₂, rules}
use Rattle.std.specs.List.{zip}
use Rattle.zones_maps.specs.Delta.{entry_stood, element_stood}
use Rattle.store_rows.specs.Calls.{RunsInside}
use Rattle.store_rows.proofs.CallLemmas.{runs_then, runs_err, follows_err}
use Rattle.store_rows.proofs.InsideLemmas.{on_ok}
use Rattle.store_zones.specs.Zones.{ChangesZone}
use Rattle.store.specs.Calls.{entries_calls, elements_calls}
use Rattle.store.specs.Writes.{EditsEntries, EditsElements}
use Rattle.store.proofs.DeltaLemmas.{both}
use Rattle.store.proofs.delta.write_delta.Goals as goal

pub returns-clause-ok : goal.returns-clause-ok
returns-clause-ok g c =
    let s = g.S.Store in
    let name = c.args.name in
    let old = c.args.tx.now.conn.now in
    let mid = c.edit_entries.new.tx.conn.now in
    let new = c.edit_elements.new.tx.conn.now in
    on_ok c.edit_elements.result _ _ (λ later zone knows.
    both s name zone old mid new c.args.delta.now c.edit_elements.ensures.continues.inside
    (subst₂ (λ edits stood. stood ≡ map (entry_stood zone) edits → ChangesZone s old mid name (EditsEntries zone edits))
    c.entries.ensures c.numbers_before.ensures (c.in_ok-edit_entries.ensures.ok zone) knows.entries)
    (subst₂ (λ edits stood. stood ≡ map (element_stood zone) edits
    → ChangesZone s mid new name (EditsElements zone edits))
    c.elements.ensures c.elements_existed.ensures (later zone) knows.elements)) c.edit_elements.ensures.ok

pub returns-clause-calls : goal.returns-clause-calls
returns-clause-calls g c =
    let s = g.S.Store in
    let old = c.args.tx.now.conn.now in
    let mid = c.edit_entries.new.tx.conn.now in
    let new = c.edit_elements.new.tx.conn.now in
    let delta = c.args.delta.now in
    let name = c.args.name in
    runs_then s (entries_calls name (zip delta.edits.entries delta.numbers_before))
    (elements_calls name (zip delta.edits.elements delta.elements_existed)) old mid new c.edit_entries.result
    (tt {0}) c.edit_elements.result c.edit_entries.ensures.continues.inside c.edit_elements.ensures.continues.inside
    c.in_ok-edit_entries.was
    (subst₂ (λ edits stood. RunsInside s (entries_calls name (zip edits stood)) old mid c.edit_entries.result)
    c.entries.ensures c.numbers_before.ensures c.edit_entries.ensures.calls)
    (subst₂ (λ edits stood. RunsInside s (elements_calls name (zip edits stood)) mid new c.edit_elements.result)
    c.elements.ensures c.elements_existed.ensures c.edit_elements.ensures.calls)

pub returns-in_err-edit_entries-clause-calls : goal.returns-in_err-edit_entries-clause-calls
returns-in_err-edit_entries-clause-calls g c =
    let s = g.S.Store in
    let old = c.args.tx.now.conn.now in
    let mid = c.edit_entries.new.tx.conn.now in
    let delta = c.args.delta.now in
    let name = c.args.name in
    runs_err s (entries_calls name (zip delta.edits.entries delta.numbers_before))
    (elements_calls name (zip delta.edits.elements delta.elements_existed)) old mid
    c.edit_entries.result c.from_residual.result (search rules)
    (follows_err c.edit_entries.result _ _ c.in_err-edit_entries.was c.from_residual.ensures.1)
    (subst₂ (λ edits stood. RunsInside s (entries_calls name (zip edits stood)) old mid c.edit_entries.result)
    c.entries.ensures c.numbers_before.ensures c.edit_entries.ensures.calls)
