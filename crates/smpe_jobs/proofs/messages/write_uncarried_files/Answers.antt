use Rattle.report.proofs.Sending.{sends_then}
use Rattle.smpe_jobs.proofs.messages.write_uncarried_files.Goals as goal

pub returns-clause-sends : goal.returns-clause-sends
returns-clause-sends g c = sends_then _ _ _ _ _ _ _ _ c.print.ensures c.write_program_line.ensures.sends
