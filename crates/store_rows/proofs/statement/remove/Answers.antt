use Rattle.std.proofs.Common.{sym}
use Rattle.std.proofs.lemmas.List.{length-map}
use Rattle.sqlite.specs.Held.{state}
use Rattle.sqlite.specs.Values.{bound}
use Rattle.store_rows.proofs.InsideLemmas.{on_ok}
use Rattle.store_rows.proofs.Writing.{take_out}
use Rattle.store_rows.proofs.statement.remove.Goals as goal

pub returns-clause-ok : goal.returns-clause-ok
returns-clause-ok g c =
    on_ok c.run_statement.result _ _ (λ ran schema at table text clean contents was.
    take_out schema at table _ c.args.sql.now (bound c.args.key.now) (state g.S.Store c.args.tx.now.conn.now)
    (state g.S.Store c.run_statement.new.tx.conn.now) (ran clean).0 contents text (sym (length-map c.args.key.now _))
    was (ran clean).1) c.run_statement.ensures.ran
