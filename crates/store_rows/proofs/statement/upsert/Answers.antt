use Rattle.sqlite.specs.Held.{state}
use Rattle.sqlite.specs.Values.{bound}
use Rattle.store_rows.proofs.InsideLemmas.{on_ok}
use Rattle.store_rows.proofs.Upserts.{put_by_key}
use Rattle.store_rows.proofs.statement.upsert.Goals as goal

pub returns-clause-ok : goal.returns-clause-ok
returns-clause-ok g c =
    on_ok c.run_statement.result _ _ (λ ran schema at table width text kept clean contents was.
    put_by_key schema at table width c.args.sql.now (bound c.args.row.now) (state g.S.Store c.args.tx.now.conn.now)
    (state g.S.Store c.run_statement.new.tx.conn.now) (ran clean).0 contents text kept was (ran clean).1)
    c.run_statement.ensures.ran
