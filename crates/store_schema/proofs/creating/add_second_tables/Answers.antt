use Rattle.std.proofs.Common.{[], ◌∷◌, refl}
use Rattle.sqlite.specs.Held.{state}
use Rattle.store_schema.specs.Create.{with_new}
use Rattle.store_schema.specs.Tables.{first_tables, source}
use Rattle.store_schema.proofs.CreateTexts.{create_source, makes_source}
use Rattle.store_schema.proofs.Making.{on_ok_under, leads_table}
use Rattle.store_schema.proofs.Adding.{without_source}
use Rattle.store_schema.proofs.creating.add_second_tables.Goals as goal

pub returns-clause-ok : goal.returns-clause-ok
returns-clause-ok g c =
    on_ok_under c.run_statement.result _ _ _ (λ ran contents clean was.
    let old = c.args.tx.now.conn.now in
    leads_table create_source first_tables source makes_source (with_new (source ∷ []) contents) refl g.S.Store old
    c.run_statement.new.tx.conn.now ran clean (without_source contents (state g.S.Store old).now was))
    c.run_statement.ensures.ran
