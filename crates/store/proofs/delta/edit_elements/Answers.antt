use Rattle.std.proofs.Common.{◌∙◌, ap, map, rules, subst}
use Rattle.std.specs.List.{filter_map, flat_map, zip}
use Rattle.store_rows.specs.Calls.{RunsInside}
use Rattle.store_rows.proofs.CallLemmas.{follows_err, runs_err, runs_then}
use Rattle.store_rows.proofs.InsideLemmas.{on_ok}
use Rattle.store_zones.specs.Calls.{insert_elements_calls}
use Rattle.store_zones.specs.Zones.{ChangesZone, HasMoreElements}
use Rattle.store.specs.Calls.{element_calls, new_element}
use Rattle.store.proofs.DeltaLemmas.{elements_end}
use Rattle.store.proofs.delta.edit_elements.Goals as goal

pub returns-clause-ok : goal.returns-clause-ok
returns-clause-ok g c =
    let s = g.S.Store in
    let old = c.args.tx.now.conn.now in
    let mid = c.replace_or_remove_elements.new.tx.conn.now in
    let new = c.insert_elements.new.tx.conn.now in
    on_ok c.insert_elements.result _ _ (λ later zone known.
    elements_end s c.args.name zone old mid new c.args.edits.now c.args.elements_existed.now known
    c.insert_elements.ensures.continues.inside (c.in_ok-replace_or_remove_elements.ensures.ok zone known)
    (subst (λ es. ChangesZone s mid new c.args.name (HasMoreElements es))
    (ap (map (λ e. e.now)) c.as_slice.ensures.value ∙ c.in_ok-news.ensures) later)) c.insert_elements.ensures.stands

pub returns-clause-calls : goal.returns-clause-calls
returns-clause-calls g c =
    let s = g.S.Store in
    let ds = zip c.args.edits.now c.args.elements_existed.now in
    let mid = c.replace_or_remove_elements.new.tx.conn.now in
    let new = c.insert_elements.new.tx.conn.now in
    runs_then s (flat_map (element_calls c.args.name) ds)
    (insert_elements_calls c.args.name (filter_map new_element ds)) c.args.tx.now.conn.now mid new
    c.replace_or_remove_elements.result (tt {0}) c.insert_elements.result
    c.replace_or_remove_elements.ensures.continues.inside
    c.insert_elements.ensures.continues.inside c.in_ok-replace_or_remove_elements.was
    c.replace_or_remove_elements.ensures.calls
    (subst (λ es. RunsInside s (insert_elements_calls c.args.name es) mid new c.insert_elements.result)
    (ap (map (λ e. e.now)) c.as_slice.ensures.value ∙ c.in_ok-news.ensures) c.insert_elements.ensures.calls)

pub returns-in_err-replace_or_remove_elements-clause-calls : goal.returns-in_err-replace_or_remove_elements-clause-calls
returns-in_err-replace_or_remove_elements-clause-calls g c =
    let ds = zip c.args.edits.now c.args.elements_existed.now in
    runs_err g.S.Store (flat_map (element_calls c.args.name) ds)
    (insert_elements_calls c.args.name (filter_map new_element ds)) c.args.tx.now.conn.now
    c.replace_or_remove_elements.new.tx.conn.now c.replace_or_remove_elements.result c.from_residual.result (search
    rules)
    (follows_err c.replace_or_remove_elements.result _ _ c.in_err-replace_or_remove_elements.was
    c.from_residual.ensures.1)
    c.replace_or_remove_elements.ensures.calls
