use Rattle.std.proofs.Common.{[], ◌∷◌}
use Rattle.sqlite.specs.Held.{state}
use Rattle.store_rows.specs.Rows.{HasContents}
use Rattle.store_rows.proofs.InsideLemmas.{on_ok, leads_then}
use Rattle.store_schema.specs.Create.{with_new}
use Rattle.store_schema.specs.Tables.{source, morever, moreif, chosen, first_tables, second_tables, schema_of}
use Rattle.store_schema.specs.Tables.{store_schema}
use Rattle.store_schema.proofs.Adding.{added_both}
use Rattle.store_schema.proofs.creating.add_tables.Goals as goal

pub returns-in_ok-add_second_tables-in-First-clause-ok : goal.returns-in_ok-add_second_tables-in-First-clause-ok
returns-in_ok-add_second_tables-in-First-clause-ok g c =
    rw c.in-First.is (on_ok c.add_third_tables.result _ _ (λ more contents clean was.
    let s = g.S.Store in
    let t0 = c.args.tx.now.conn.now in
    let t1 = c.add_second_tables.new.tx.conn.now in
    let t2 = c.add_third_tables.new.tx.conn.now in
    let first = with_new (source ∷ []) contents in
    added_both contents (state s t2).now
    (leads_then s t0 t1 t2 (HasContents (schema_of first_tables) contents) (HasContents (schema_of second_tables) first)
    (HasContents store_schema (with_new (morever ∷ moreif ∷ chosen ∷ []) first))
    c.add_third_tables.ensures.continues.inside
    (c.in_ok-add_second_tables-in-First.ensures.ok contents) (more first) clean was)) c.add_third_tables.ensures.ok)

pub returns-in-Second-clause-ok : goal.returns-in-Second-clause-ok
returns-in-Second-clause-ok g c = rw c.in-Second.is c.add_third_tables-in-Second.ensures.ok
