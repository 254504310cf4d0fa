use Rattle.std.proofs.Common.{inr, subst}
use Rattle.smpe_command.proofs.database.migrate_database.Goals as goal

pub returns-in-Ok : goal.returns-in-Ok
returns-in-Ok g c = (
  c.in_ok-conn.conn,
  c.in-Ok.store,
  c.open.new.self,
  c.in_ok-conn.ensures.ok,
  c.in-Ok.ensures.ok,
  subst (λ conn. g.H.Host.closes c.open.new.self conn c.close-in-Ok.new.self) c.close.ensures.same
      c.close-in-Ok.ensures.closed,
)

pub returns-in-Err : goal.returns-in-Err
returns-in-Err g c = inr (
  c.in_ok-conn.conn,
  c.in-Err.conn,
  c.open.new.self,
  c.in_ok-conn.ensures.ok,
  c.in-Err.ensures.err,
  c.close-in-Err.ensures.closed,
)
