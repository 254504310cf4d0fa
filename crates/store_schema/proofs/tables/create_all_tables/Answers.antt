use Rattle.std.proofs.Common.{[]}
use Rattle.sqlite.specs.Held.{state}
use Rattle.store_schema.specs.Create.{IsBlank, HasTables}
use Rattle.store_schema.specs.Tables.{first_tables, all_tables}
use Rattle.store_schema.specs.Inventory.{empty_inventory}
use Rattle.store_schema.specs.Stands.{StandsFor}
use Rattle.store_rows.proofs.InsideLemmas.{leads_then}
use Rattle.store_schema.proofs.Making.{on_ok_under}
use Rattle.store_schema.proofs.Adding.{adds_to_none}
use Rattle.store_schema.proofs.Number.{makes_number}
use Rattle.store_schema.proofs.tables.create_all_tables.Goals as goal

pub returns-clause-ok : goal.returns-clause-ok
returns-clause-ok g c =
    let s = g.S.Store in
    let t0 = c.args.tx.now.conn.now in
    let t1 = c.create_first_tables.new.tx.conn.now in
    let t2 = c.add_tables.new.tx.conn.now in
    let t3 = c.run_statement.new.tx.conn.now in
    let empty = StandsFor empty_inventory in
    let made = leads_then s t0 t1 t2 IsBlank (HasTables first_tables) (HasTables all_tables)
    c.add_tables.ensures.continues.inside c.in_ok-create_first_tables.ensures.ok
    (λ clean was. adds_to_none (state s t2).now (c.in_ok-add_tables.ensures.ok (λ _. []) clean was)) in
    on_ok_under c.run_statement.result _ _ _ (λ ran. leads_then s t0 t2 t3 IsBlank (HasTables all_tables) empty
    c.run_statement.ensures.continues.inside made (λ clean tables. makes_number (state s t2) (state s t3) tables (ran
    clean)))
    c.run_statement.ensures.ran
