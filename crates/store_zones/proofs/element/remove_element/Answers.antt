use Rattle.std.proofs.Common.{[], ◌∷◌, subst}
use Rattle.store_rows.specs.Calls.{RunsInside}
use Rattle.store_rows.proofs.InsideLemmas.{on_ok}
use Rattle.store_schema.specs.Stands.{rows_of}
use Rattle.store_schema.specs.Tables.{store_schema, zelem}
use Rattle.store_zones.specs.Elements.{delete_element, element_key}
use Rattle.store_zones.proofs.Texts.{takes_element}
use Rattle.store_zones.proofs.RowForms.{element_key_bound}
use Rattle.store_rows.proofs.Bound.{as_removed}
use Rattle.store_zones.proofs.ZoneLemmas.{element_removed}
use Rattle.store_zones.proofs.element.remove_element.Goals as goal

pub returns-clause-ok : goal.returns-clause-ok
returns-clause-ok g c =
    let is = element_key_bound _ _ _ c.args.zone c.args.name c.args.elem_type c.as_bytes.ensures.same
    c.type_text.ensures c.as_bytes-2.ensures.same in
    on_ok c.remove.result _ _ (λ removed.
    as_removed g.S.Store c.args.tx.now.conn.now c.remove.new.tx.conn.now store_schema zelem
    (element_key c.args.zone c.args.elem_type c.args.name) _ is (removed store_schema 8 zelem takes_element))
    c.remove.ensures.ok

pub returns-clause-stands : goal.returns-clause-stands
returns-clause-stands g c =
    on_ok c.remove.result _ _ (λ turned i j was is change removed clean held.
    element_removed i j c.args.zone was is change c.args.elem_type c.args.name _ removed
    (turned clean (rows_of i) held)) (returns-clause-ok g c)

pub returns-clause-calls : goal.returns-clause-calls
returns-clause-calls g c =
    subst (λ key. RunsInside g.S.Store ((delete_element, key) ∷ []) c.args.tx.now.conn.now c.remove.new.tx.conn.now
    c.remove.result)
    (element_key_bound _ _ _ c.args.zone c.args.name c.args.elem_type c.as_bytes.ensures.same c.type_text.ensures
    c.as_bytes-2.ensures.same) c.remove.ensures.calls
