use Rattle.report.proofs.Sending.{sends_then, sends_as}
use Rattle.smpe_jobs.proofs.ZoneLines.{defined_parts}
use Rattle.smpe_jobs.proofs.messages.write_zone_defined.Goals as goal

pub returns-in_err-write_all-clause-sends : goal.returns-in_err-write_all-clause-sends
returns-in_err-write_all-clause-sends g c =
    sends_as _ _ _ _ _ _ (rw c.as_bytes.ensures.same (defined_parts c.args.name.now))
    (sends_then _ _ _ _ _ _ _ _ c.print.ensures (sends_then _ _ _ _ _ _ _ _ c.print-2.ensures c.write_all.ensures.sends))

pub returns-clause-sends : goal.returns-clause-sends
returns-clause-sends g c =
    sends_as _ _ _ _ _ _ (rw c.as_bytes.ensures.same (defined_parts c.args.name.now))
    (sends_then _ _ _ _ _ _ _ _ c.print.ensures (sends_then _ _ _ _ _ _ _ _ c.print-2.ensures c.write_all.ensures.sends))
