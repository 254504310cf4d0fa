use Rattle.report.proofs.Sending.{sends_then, sends_as}
use Rattle.smpe_jobs.specs.Messages.{zone_fault_text}
use Rattle.smpe_jobs.proofs.ZoneLines.{refused_parts}
use Rattle.smpe_jobs.specs.ZoneDefinitions.{fault_of}
use Rattle.smpe_jobs.proofs.messages.write_zone_refused.Goals as goal

pub returns-in_err-write_all-clause-sends : goal.returns-in_err-write_all-clause-sends
returns-in_err-write_all-clause-sends g c =
    sends_as _ _ _ _ _ _ (rw c.zone_fault_code.ensures (refused_parts (zone_fault_text (fault_of c.args.fault))))
    (sends_then _ _ _ _ _ _ _ _ c.print.ensures (sends_then _ _ _ _ _ _ _ _ c.print-2.ensures c.write_all.ensures.sends))

pub returns-clause-sends : goal.returns-clause-sends
returns-clause-sends g c =
    sends_as _ _ _ _ _ _ (rw c.zone_fault_code.ensures (refused_parts (zone_fault_text (fault_of c.args.fault))))
    (sends_then _ _ _ _ _ _ _ _ c.print.ensures (sends_then _ _ _ _ _ _ _ _ c.print-2.ensures c.write_all.ensures.sends))
