use Rattle.std.proofs.Common.{[], ◌∷◌, refl}
use Rattle.store_schema.specs.Create.{HasTables}
use Rattle.store_schema.specs.Tables.{meta, sysmod, ver, ifreq, hold, elem}
use Rattle.store_schema.proofs.CreateTexts.{
  create_sysmod,
  create_ver,
  create_ifreq,
  create_hold,
  create_elem,
  makes_sysmod,
}
use Rattle.store_schema.proofs.CreateTexts.{makes_ver, makes_ifreq, makes_hold, makes_elem}
use Rattle.store_schema.proofs.Making.{on_ok_under, leads_table, leads_more}
use Rattle.store_schema.proofs.creating.create_global_tables.Goals as goal

pub returns-clause-ok : goal.returns-clause-ok
returns-clause-ok g c =
    let s = g.S.Store in
    let was = HasTables (meta ∷ []) in
    let t0 = c.args.tx.now.conn.now in
    let t1 = c.run_statement.new.tx.conn.now in
    let t2 = c.run_statement-2.new.tx.conn.now in
    let t3 = c.run_statement-3.new.tx.conn.now in
    let t4 = c.run_statement-4.new.tx.conn.now in
    let t5 = c.run_statement-5.new.tx.conn.now in
    let made1 = leads_table create_sysmod (meta ∷ []) sysmod makes_sysmod (λ _. []) refl s t0 t1
    c.in_ok-run_statement.ensures.ran in
    let made2 = leads_more create_ver (meta ∷ sysmod ∷ []) ver makes_ver (λ _. []) refl s t0 t1 t2 was
    c.run_statement-2.ensures.continues.inside made1 c.in_ok-run_statement-2.ensures.ran in
    let made3 = leads_more create_ifreq (meta ∷ sysmod ∷ ver ∷ []) ifreq makes_ifreq (λ _. []) refl s t0 t2 t3 was
    c.run_statement-3.ensures.continues.inside made2 c.in_ok-run_statement-3.ensures.ran in
    let made4 = leads_more create_hold (meta ∷ sysmod ∷ ver ∷ ifreq ∷ []) hold makes_hold (λ _. []) refl s t0 t3 t4
    was c.run_statement-4.ensures.continues.inside made3 c.in_ok-run_statement-4.ensures.ran in
    on_ok_under c.run_statement-5.result _ _ _ (λ ran. leads_more create_elem (meta ∷ sysmod ∷ ver ∷ ifreq ∷ hold ∷ [])
    elem
    makes_elem (λ _. []) refl s t0 t4 t5 was c.run_statement-5.ensures.continues.inside made4 ran)
    c.run_statement-5.ensures.ran
