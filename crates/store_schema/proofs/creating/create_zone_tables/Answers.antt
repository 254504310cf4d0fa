use Rattle.std.proofs.Common.{[], ◌∷◌, refl}
use Rattle.store_schema.specs.Create.{HasTables}
use Rattle.store_schema.specs.Tables.{meta, sysmod, ver, ifreq, hold, elem, zone, entry, zelem}
use Rattle.store_schema.proofs.CreateTexts.{
  create_zone,
  create_entry,
  create_zelem,
  makes_zone,
  makes_entry,
  makes_zelem,
}
use Rattle.store_schema.proofs.Making.{on_ok_under, leads_table, leads_more}
use Rattle.store_schema.proofs.creating.create_zone_tables.Goals as goal

pub returns-clause-ok : goal.returns-clause-ok
returns-clause-ok g c =
    let s = g.S.Store in
    let front = meta ∷ sysmod ∷ ver ∷ ifreq ∷ hold ∷ elem ∷ [] in
    let was = HasTables front in
    let t0 = c.args.tx.now.conn.now in
    let t1 = c.run_statement.new.tx.conn.now in
    let t2 = c.run_statement-2.new.tx.conn.now in
    let t3 = c.run_statement-3.new.tx.conn.now in
    let made1 = leads_table create_zone front zone makes_zone (λ _. []) refl s t0 t1 c.in_ok-run_statement.ensures.ran
    in
    let made2 = leads_more create_entry (meta ∷ sysmod ∷ ver ∷ ifreq ∷ hold ∷ elem ∷ zone ∷ []) entry makes_entry
    (λ _. []) refl s t0 t1 t2 was c.run_statement-2.ensures.continues.inside made1 c.in_ok-run_statement-2.ensures.ran
    in
    on_ok_under c.run_statement-3.result _ _ _ (λ ran. leads_more create_zelem
    (meta ∷ sysmod ∷ ver ∷ ifreq ∷ hold ∷ elem ∷ zone ∷ entry ∷ []) zelem makes_zelem (λ _. []) refl s t0 t2 t3 was
    c.run_statement-3.ensures.continues.inside made2 ran) c.run_statement-3.ensures.ran
