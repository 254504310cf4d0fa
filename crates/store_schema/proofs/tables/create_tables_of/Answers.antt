use Rattle.std.proofs.Common.{[]}
use Rattle.sqlite.specs.Held.{state}
use Rattle.store_rows.proofs.InsideLemmas.{on_ok, leads_then}
use Rattle.store_schema.specs.Create.{IsBlank, HasTables}
use Rattle.store_schema.specs.Tables.{first_tables, second_tables, all_tables}
use Rattle.store_schema.proofs.Adding.{source_to_none, adds_to_none}
use Rattle.store_schema.proofs.tables.create_tables_of.Goals as goal

pub returns-in-Second-clause-ok : goal.returns-in-Second-clause-ok
returns-in-Second-clause-ok g c =
    let s = g.S.Store in
    let t2 = c.add_second_tables.new.tx.conn.now in
    rw c.in-Second.is (on_ok c.add_second_tables.result _ _ (λ more.
    leads_then s c.args.tx.now.conn.now c.create_first_tables.new.tx.conn.now t2 IsBlank (HasTables first_tables)
    (HasTables second_tables) c.add_second_tables.ensures.continues.inside c.in_ok-create_first_tables.ensures.ok
    (λ clean was. source_to_none (state s t2).now (more (λ _. []) clean was))) c.add_second_tables.ensures.ok)

pub returns-in-Third-clause-ok : goal.returns-in-Third-clause-ok
returns-in-Third-clause-ok g c =
    let s = g.S.Store in
    let t2 = c.add_tables.new.tx.conn.now in
    rw c.in-Third.is (on_ok c.add_tables.result _ _ (λ more.
    leads_then s c.args.tx.now.conn.now c.create_first_tables.new.tx.conn.now t2 IsBlank (HasTables first_tables)
    (HasTables all_tables) c.add_tables.ensures.continues.inside c.in_ok-create_first_tables.ensures.ok
    (λ clean was. adds_to_none (state s t2).now (more (λ _. []) clean was))) c.add_tables.ensures.ok)
