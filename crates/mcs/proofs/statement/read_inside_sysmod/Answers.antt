use Rattle.std.proofs.Common.{Some}
use Rattle.mcs.proofs.statement.read_inside_sysmod.Goals as goal

pub returns-in-Header-clause-said : goal.returns-in-Header-clause-said
returns-in-Header-clause-said c = c.header_statement.ensures.said (Some c.args.begun.now)

pub returns-in-Header-clause-fault : goal.returns-in-Header-clause-fault
returns-in-Header-clause-fault c = λ rest h printable. c.header_statement.ensures.fault (Some c.args.begun.now) rest h

pub returns-in-Ver-clause-fault : goal.returns-in-Ver-clause-fault
returns-in-Ver-clause-fault c = λ rest h printable. c.ver_statement.ensures.fault rest h

pub returns-in-If-clause-fault : goal.returns-in-If-clause-fault
returns-in-If-clause-fault c = λ rest h printable. c.if_statement.ensures.fault rest h

pub returns-in-Assign-clause-said : goal.returns-in-Assign-clause-said
returns-in-Assign-clause-said c = c.assign_statement.ensures.said (Some c.args.begun.now)

pub returns-in-Assign-clause-fault : goal.returns-in-Assign-clause-fault
returns-in-Assign-clause-fault c = λ rest h printable. c.assign_statement.ensures.fault (Some c.args.begun.now) rest h

pub returns-in-Replace-clause-fault : goal.returns-in-Replace-clause-fault
returns-in-Replace-clause-fault c = λ rest h printable. c.replacement_statement.ensures.fault rest h

pub returns-in-UpdateMac-clause-fault : goal.returns-in-UpdateMac-clause-fault
returns-in-UpdateMac-clause-fault c = λ rest h printable. c.update_statement.ensures.fault rest h

pub returns-in-UpdateSrc-clause-fault : goal.returns-in-UpdateSrc-clause-fault
returns-in-UpdateSrc-clause-fault c = λ rest h printable. c.update_statement-in-UpdateSrc.ensures.fault rest h
