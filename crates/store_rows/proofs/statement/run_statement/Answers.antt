use Rattle.std.proofs.Common.{Ok}
use Rattle.sqlite.specs.Values.{bound}
use Rattle.store_rows.proofs.Statements.{ran_inside}
use Rattle.store_rows.proofs.CallLemmas.{one_call, follows_ok, follows_err}
use Rattle.store_rows.proofs.statement.run_statement.Goals as goal

pub returns-clause-ran : goal.returns-clause-ran
returns-clause-ran g c clean =
    let old = c.args.tx.now.conn.now in
    let new = c.execute.new.self.conn.now in
    let count = c.in_ok-execute.field-0 in (
      count,
      ran_inside g.S.Store old new c.args.sql.now (bound c.args.params.now) c.execute.result c.execute.ensures.ended
          c.execute.ensures.runs clean count c.in_ok-execute.was,
    )

pub returns-clause-calls : goal.returns-clause-calls
returns-clause-calls g c =
    one_call g.S.Store c.args.tx.now.conn.now c.execute.new.self.conn.now c.args.sql.now (bound c.args.params.now)
    c.execute.result (Ok (tt {0})) c.execute.ensures.runs
    (follows_ok c.execute.result _ (tt {0}) c.in_ok-execute.was)

pub returns-in_err-execute-clause-calls : goal.returns-in_err-execute-clause-calls
returns-in_err-execute-clause-calls g c =
    one_call g.S.Store c.args.tx.now.conn.now c.execute.new.self.conn.now c.args.sql.now (bound c.args.params.now)
    c.execute.result c.from_residual.result c.execute.ensures.runs
    (follows_err c.execute.result _ _ c.in_err-execute.was c.from_residual.ensures.1)
