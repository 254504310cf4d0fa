use Rattle.std.proofs.Common.{[], ◌∷◌, refl}
use Rattle.sqlite.specs.Held.{state}
use Rattle.store_schema.specs.Create.{IsBlank, HasTables}
use Rattle.store_schema.specs.Tables.{meta, global_tables, first_tables}
use Rattle.store_rows.proofs.InsideLemmas.{on_ok, leads_then}
use Rattle.store_schema.proofs.CreateTexts.{create_meta, makes_meta}
use Rattle.store_schema.proofs.Making.{makes_table}
use Rattle.store_schema.proofs.creating.create_first_tables.Goals as goal

pub returns-clause-ok : goal.returns-clause-ok
returns-clause-ok g c =
    let s = g.S.Store in
    let t0 = c.args.tx.now.conn.now in
    let t1 = c.run_statement.new.tx.conn.now in
    let t2 = c.create_global_tables.new.tx.conn.now in
    let t3 = c.create_zone_tables.new.tx.conn.now in
    let front = HasTables (meta ∷ global_tables) in
    let first = leads_then s t0 t1 t2 IsBlank (HasTables (meta ∷ [])) front
    c.create_global_tables.ensures.continues.inside
    (λ clean blank. makes_table create_meta [] meta makes_meta (λ _. []) refl (state s t0) (state s t1) blank tt
    (c.in_ok-run_statement.ensures.ran clean)) c.in_ok-create_global_tables.ensures.ok in
    on_ok c.create_zone_tables.result _ _ (λ made. leads_then s t0 t2 t3 IsBlank front (HasTables first_tables)
    c.create_zone_tables.ensures.continues.inside first made) c.create_zone_tables.ensures.ok
