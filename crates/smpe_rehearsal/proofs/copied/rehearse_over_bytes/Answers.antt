use Rattle.std.proofs.Common.{inr, subst}
use Rattle.smpe_rehearsal.specs.Copied.{IsCopy}
use Rattle.smpe_rehearsal.proofs.copied.rehearse_over_bytes.Goals as goal

pub returns : goal.returns
returns g c = inr (
  c.in_ok-conn.conn,
  subst (λ log. IsCopy c.args.bytes.now.db.items log c.in_ok-conn.conn) c.as_slice-2.ensures.value
      (subst (λ db. IsCopy db c.as_slice-2.result.now c.in_ok-conn.conn) c.as_slice.ensures.value
      c.in_ok-conn.ensures.ok),
  c.rehearse_over_connection.ensures,
)
