use Rattle.std.proofs.Common.{Ok, map, sym, ap, subst, ◌∙◌}
use Rattle.std.proofs.lemmas.List.{length-map}
use Rattle.sqlite.specs.Held.{state}
use Rattle.sqlite.specs.State.{Executes}
use Rattle.sqlite.specs.Values.{bound}
use Rattle.store_rows.specs.Rows.{as_bound}
use Rattle.store_rows.specs.Texts.{PutsIn}
use Rattle.store_rows.proofs.InsideLemmas.{on_ok}
use Rattle.store_rows.proofs.Writing.{put_rows_in}
use Rattle.store_rows.proofs.statement.insert_by_one_statement.Goals as goal

pub returns-clause-ok : goal.returns-clause-ok
returns-clause-ok g c =
    let sql = c.args.sql.now in
    let old = state g.S.Store c.args.tx.now.conn.now in
    let new = state g.S.Store c.run_statement.new.tx.conn.now in
    on_ok c.run_statement.result _ _ (λ ran schema at table text kept clean contents was.
    put_rows_in schema at table sql (map as_bound c.args.rows.now) old new (ran clean).0 contents
    (subst (λ n. PutsIn schema at table n sql) (sym (length-map c.args.rows.now _)) text) kept was
    (subst (λ params. Executes sql params old new (Ok (ran clean).0))
    (ap bound c.as_slice.ensures.value ∙ c.in_ok-values.ensures) (ran clean).1)) c.run_statement.ensures.ran
