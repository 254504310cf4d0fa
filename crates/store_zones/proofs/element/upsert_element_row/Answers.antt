use Rattle.std.proofs.Common.{Bool, sym, subst}
use Rattle.store_rows.proofs.InsideLemmas.{on_ok}
use Rattle.store_schema.specs.Rows.{zelem_row}
use Rattle.store_schema.specs.Tables.{store_schema, zelem}
use Rattle.store_zones.specs.Elements.{insert_element, upsert_element, element_key}
use Rattle.store_zones.proofs.Texts.{adds_element, puts_element}
use Rattle.store_zones.proofs.RowForms.{kept_element}
use Rattle.store_zones.proofs.Putting.{WritesRow, inserts_row, puts_row, element_rows_with}
use Rattle.store_zones.proofs.element.upsert_element_row.Given.{Over}
use Rattle.store_zones.proofs.element.upsert_element_row.Goals.{After-upsert, After-insert}
use Rattle.store_zones.proofs.element.upsert_element_row.Goals as goal

put : (g : Over) (c : After-upsert g) → WritesRow g.S.Store upsert_element insert_element zelem 3 c.args.tx.now.conn.now
    c.upsert.new.tx.conn.now c.upsert.result (zelem_row c.args.zone.now c.args.element.now)
    c.args.existed
put g c =
    let e = c.args.element.now in
    let zone = c.args.zone.now in
    let old = c.args.tx.now.conn.now in
    let new = c.upsert.new.tx.conn.now in
    let q = c.upsert.result in
    let ran = puts_row g.S.Store upsert_element zelem old new q 3 (zelem_row zone e) _ c.element_values-row.ensures
    (kept_element zone e) c.upsert.ensures.calls (on_ok q _ _ (λ ran. ran store_schema 8 zelem 3 puts_element)
    c.upsert.ensures.ok) in
    subst (λ (b : Bool). WritesRow g.S.Store upsert_element insert_element zelem 3 old new q (zelem_row zone e) b)
    (sym c.if-existed.true) (
      ran.0,
      on_ok q _ _ (λ put clean contents was.
          element_rows_with (element_key zone e.elem_type e.name) (zelem_row zone e) contents _
          (put clean contents was)) ran.1,
    )

insert : (g : Over) (c : After-insert g) → WritesRow g.S.Store upsert_element insert_element zelem 3
    c.args.tx.now.conn.now c.insert.new.tx.conn.now c.insert.result (zelem_row c.args.zone.now c.args.element.now)
    c.args.existed
insert g c =
    let e = c.args.element.now in
    let zone = c.args.zone.now in
    let old = c.args.tx.now.conn.now in
    let new = c.insert.new.tx.conn.now in
    let q = c.insert.result in
    subst (λ (b : Bool). WritesRow g.S.Store upsert_element insert_element zelem 3 old new q (zelem_row zone e) b)
    (sym c.if-existed.false)
    (inserts_row g.S.Store insert_element zelem old new q (zelem_row zone e) _ c.element_values-row.ensures
    (kept_element zone e) c.insert.ensures.calls (on_ok q _ _ (λ ran. ran store_schema 8 zelem adds_element)
    c.insert.ensures.ok))

pub returns-then-existed-clause-ok : goal.returns-then-existed-clause-ok
returns-then-existed-clause-ok g c = (put g (goal.at.returns-then-existed-clause-ok g c).After-upsert).1

pub returns-then-existed-clause-calls : goal.returns-then-existed-clause-calls
returns-then-existed-clause-calls g c = (put g (goal.at.returns-then-existed-clause-calls g c).After-upsert).0

pub returns-clause-ok : goal.returns-clause-ok
returns-clause-ok g c = (insert g (goal.at.returns-clause-ok g c).After-insert).1

pub returns-clause-calls : goal.returns-clause-calls
returns-clause-calls g c = (insert g (goal.at.returns-clause-calls g c).After-insert).0
