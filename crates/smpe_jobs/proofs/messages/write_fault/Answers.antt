use Rattle.smpe_jobs.specs.Messages.{program_line}
use Rattle.std.proofs.Common.{◌++◌, codes, subst}
use Rattle.report.specs.Sent.{Sent}
use Rattle.smpe_jobs.proofs.messages.write_fault.Goals as goal

pub returns-in-NotCarried-clause-sends : goal.returns-in-NotCarried-clause-sends
returns-in-NotCarried-clause-sends g c =
    rw c.in-NotCarried.is (subst (λ lines. Sent g.W.Sink c.args.w.now c.write_uncarried_files.new.w
    (lines ++ program_line (codes "the files cannot be carried"))) c.as_slice.ensures.value
    c.write_uncarried_files.ensures.sends)

pub returns-in-NoSource-clause-sends : goal.returns-in-NoSource-clause-sends
returns-in-NoSource-clause-sends g c = rw c.in-NoSource.is c.write_program_line-in-NoSource.ensures.sends

pub returns-in-CannotWrite-clause-sends : goal.returns-in-CannotWrite-clause-sends
returns-in-CannotWrite-clause-sends g c = rw c.in-CannotWrite.is c.write_unwritten_file.ensures.sends
