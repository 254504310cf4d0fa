use Rattle.std.proofs.Common.{[], ◌∷◌, ◌++◌, refl}
use Rattle.sqlite.specs.Held.{state}
use Rattle.store_rows.specs.Rows.{HasContents}
use Rattle.store_schema.specs.Create.{with_new}
use Rattle.store_schema.specs.Tables.{second_tables, morever, moreif, chosen, schema_of}
use Rattle.store_schema.proofs.CreateTexts.{create_morever, create_moreif, create_chosen, makes_morever, makes_moreif}
use Rattle.store_schema.proofs.CreateTexts.{makes_chosen}
use Rattle.store_schema.proofs.Making.{on_ok_under, leads_table, leads_more}
use Rattle.store_schema.proofs.Adding.{without_more}
use Rattle.store_schema.proofs.creating.add_third_tables.Goals as goal

pub returns-clause-ok : goal.returns-clause-ok
returns-clause-ok g c =
    on_ok_under c.run_statement-3.result _ _ _ (λ ran contents clean was.
    let s = g.S.Store in
    let new = with_new (morever ∷ moreif ∷ chosen ∷ []) contents in
    let held = HasContents (schema_of second_tables) new in
    let t0 = c.args.tx.now.conn.now in
    let t1 = c.run_statement.new.tx.conn.now in
    let t2 = c.run_statement-2.new.tx.conn.now in
    let t3 = c.run_statement-3.new.tx.conn.now in
    let made1 = leads_table create_morever second_tables morever makes_morever new refl s t0 t1
    c.in_ok-run_statement.ensures.ran in
    let made2 = leads_more create_moreif (second_tables ++ morever ∷ []) moreif makes_moreif new refl s t0 t1 t2 held
    c.run_statement-2.ensures.continues.inside made1 c.in_ok-run_statement-2.ensures.ran in
    leads_more create_chosen (second_tables ++ morever ∷ moreif ∷ []) chosen makes_chosen new refl s t0 t2 t3 held
    c.run_statement-3.ensures.continues.inside made2 ran clean (without_more contents (state s t0).now was))
    c.run_statement-3.ensures.ran
