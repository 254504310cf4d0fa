use Rattle.std.proofs.lemmas.List.Sorted.{IsPermutation-sym, IsPermutation-trans}
use Rattle.sqlite.specs.Held.{state}
use Rattle.sqlite.specs.Values.{bound}
use Rattle.store_rows.proofs.ContentsLemmas.{held_at}
use Rattle.terms.proofs.Results.{if_ok_both}
use Rattle.store_rows.proofs.InsideLemmas.{if_ok}
use Rattle.store_rows.proofs.Unmapped.{unmapped_permutation}
use Rattle.store_schema.specs.Earlier.{schema_under}
use Rattle.store_schema.proofs.Found.{found_asked, asked_found, reads_by}
use Rattle.store_schema.proofs.listed.load_query.Goals as goal

pub returns-clause-found : goal.returns-clause-found
returns-clause-found g c clean wide r known contents was =
    let table = g.Q.Query.table in
    let trees = (state g.S.Store c.args.conn.now).now.trees in
    let are = held_at (schema_under r) g.Q.Query.at table contents trees (c.select_sql.ensures.there r known) was.tables
    in
    if_ok c.load.result _ _ (λ items found.
    found_asked table (bound c.args.key.now) (contents table.tree) _ (trees table.tree) are
    (found (schema_under r) table (reads_by _ _ _ _ _ wide (c.select_sql.ensures.reads r known)) was.schema_is))
    (c.load.ensures.found clean)

pub returns-clause-only : goal.returns-clause-only
returns-clause-only g c clean wide r known contents was =
    let table = g.Q.Query.table in
    let trees = (state g.S.Store c.args.conn.now).now.trees in
    let are = held_at (schema_under r) g.Q.Query.at table contents trees (c.select_sql.ensures.there r known) was.tables
    in
    if_ok_both c.load.result _ _ _ (λ items found forms xs formed same.
    unmapped_permutation _ _ c.select_sql.ensures.exact items.items xs forms formed
    (IsPermutation-trans _ _ _ (found_asked table (bound c.args.key.now) (contents table.tree) _ (trees table.tree) are
    (found (schema_under r) table (reads_by _ _ _ _ _ wide (c.select_sql.ensures.reads r known)) was.schema_is))
    (IsPermutation-sym _ _ same)))
    (c.load.ensures.found clean) c.load.ensures.forms

pub returns-clause-none : goal.returns-clause-none
returns-clause-none g c clean bad wide r known contents was xs formed same =
    let table = g.Q.Query.table in
    let trees = (state g.S.Store c.args.conn.now).now.trees in
    let are = held_at (schema_under r) g.Q.Query.at table contents trees (c.select_sql.ensures.there r known) was.tables
    in
    c.load.ensures.none clean bad (schema_under r) table (reads_by _ _ _ _ _ wide (c.select_sql.ensures.reads r known))
    was.schema_is xs formed
    (asked_found table (bound c.args.key.now) (contents table.tree) _ (trees table.tree) are same)

pub returns-clause-reads : goal.returns-clause-reads
returns-clause-reads g c wide texts r known =
    c.load.ensures.reads c.select_sql.ensures.selects (schema_under r) g.Q.Query.table
    (reads_by _ _ _ _ _ wide (c.select_sql.ensures.reads r known)) texts
