use Rattle.std.proofs.Common.{inr}
use Rattle.smpe_command.proofs.database.open_store.Goals as goal

pub returns-in-Ok-clause-ok : goal.returns-in-Ok-clause-ok
returns-in-Ok-clause-ok g c = record {
  conn = c.in_ok-conn.conn;
  opens = c.in_ok-conn.ensures.ok;
  over = record {
    stands = λ i found. record { now = c.in-Ok.ensures.tables i found; crash = c.in-Ok.ensures.leaves i found };
    ours = c.in-Ok.ensures.ours;
    same = c.in-Ok.ensures.same;
    crash = c.in-Ok.ensures.crash;
  };
}

pub returns-in-Err-clause-err : goal.returns-in-Err-clause-err
returns-in-Err-clause-err g c = inr (
  c.in_ok-conn.conn,
  c.open.new.self,
  c.in_ok-conn.ensures.ok,
  record {
    left = c.in-Err.conn;
    other = c.in-Err.ensures.other;
    none = c.in-Err.ensures.none;
    same = c.in-Err.ensures.unchanged;
    found = c.in-Err.ensures.leaves_err;
    crash = c.in-Err.ensures.crash_err;
    mode = c.in-Err.ensures.mode;
    closes = c.close.ensures.closed;
  },
)
