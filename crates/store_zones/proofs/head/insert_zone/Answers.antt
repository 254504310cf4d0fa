use Rattle.std.proofs.Common.{[], ◌∷◌, ◌++◌, refl, subst}
use Rattle.store_rows.specs.Calls.{RunsInside}
use Rattle.store_rows.proofs.InsideLemmas.{on_ok}
use Rattle.store_schema.specs.Rows.{zone_row}
use Rattle.store_schema.specs.Stands.{rows_of}
use Rattle.store_schema.specs.Tables.{store_schema, zone}
use Rattle.store_zones.specs.Heads.{insert_zone}
use Rattle.store_zones.specs.Zones.{empty_zone}
use Rattle.store_zones.proofs.Texts.{puts_zone}
use Rattle.store_zones.proofs.RowForms.{kept_zone, zone_bound}
use Rattle.store_rows.proofs.Bound.{as_inserted, kept_as}
use Rattle.store_zones.proofs.ZoneLemmas.{zone_added}
use Rattle.store_zones.proofs.head.insert_zone.Goals as goal

pub returns-clause-ok : goal.returns-clause-ok
returns-clause-ok g c =
    let made = empty_zone c.args.name c.args.kind c.args.srel c.args.related in
    let is = zone_bound c.as_bytes.result.now c.zone_kind_text.result.now c.as_bytes-2.result.now
    c.text_or_null-related.result made c.as_bytes.ensures.same c.zone_kind_text.ensures c.as_bytes-2.ensures.same
    c.text_or_null-related.ensures in
    on_ok c.insert.result _ _ (λ inserted.
    as_inserted g.S.Store c.args.tx.now.conn.now c.insert.new.tx.conn.now store_schema zone (zone_row made) _ is
    (inserted store_schema 6 zone puts_zone (kept_as zone (zone_row made) _ is (kept_zone made))))
    c.insert.ensures.ok

pub returns-clause-stands : goal.returns-clause-stands
returns-clause-stands g c =
    let made = empty_zone c.args.name c.args.kind c.args.srel c.args.related in
    on_ok c.insert.result _ _ (λ turned global before after clean held.
    zone_added global made before after _ refl refl refl (turned clean
    (rows_of (record { global = global; zones = before ++ after })) held)) (returns-clause-ok g c)

pub returns-clause-calls : goal.returns-clause-calls
returns-clause-calls g c =
    let made = empty_zone c.args.name c.args.kind c.args.srel c.args.related in
    let is = zone_bound c.as_bytes.result.now c.zone_kind_text.result.now c.as_bytes-2.result.now
    c.text_or_null-related.result made c.as_bytes.ensures.same c.zone_kind_text.ensures c.as_bytes-2.ensures.same
    c.text_or_null-related.ensures in
    subst (λ row. RunsInside g.S.Store ((insert_zone, row) ∷ []) c.args.tx.now.conn.now c.insert.new.tx.conn.now
    c.insert.result) is c.insert.ensures.calls
