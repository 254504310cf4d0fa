use Rattle.report.proofs.Sending.{sends_then}
use Rattle.smpe_jobs.proofs.messages.write_unwritten_file.Goals as goal

pub returns-clause-sends : goal.returns-clause-sends
returns-clause-sends g c =
    rw (← c.as_bytes.ensures.value)
    (sends_then _ _ _ _ _ _ _ _ c.print.ensures (sends_then _ _ _ _ _ _ _ _ c.print-2.ensures c.write_all.ensures.sends))
