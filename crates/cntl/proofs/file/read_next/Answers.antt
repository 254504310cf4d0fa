use Rattle.std.proofs.Common.{inr}
use Rattle.cntl.proofs.file.read_next.Goals as goal

pub returns-in-Err-Fault-clause-fault : goal.returns-in-Err-Fault-clause-fault
returns-in-Err-Fault-clause-fault c =
    let t = rw c.in-Some.is at c.in-Ok.ensures.command in
    let fault = rw c.in-Err-Fault.field-0-is at c.in-Err-Fault.ensures.fault t.0 t.2 in
    inr (t.0, c.next_command.new.self.number, c.next_command.new.self.rest.now, t.1, fault)
