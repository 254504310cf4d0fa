use Rattle.std.proofs.Common.{None}
use Rattle.mcs.proofs.statement.read_outside_sysmod.Goals as goal

pub returns-in-Header-clause-said : goal.returns-in-Header-clause-said
returns-in-Header-clause-said c = c.header_statement.ensures.said None

pub returns-in-Header-clause-fault : goal.returns-in-Header-clause-fault
returns-in-Header-clause-fault c = c.header_statement.ensures.fault None

pub returns-in-Assign-clause-said : goal.returns-in-Assign-clause-said
returns-in-Assign-clause-said c = c.assign_statement.ensures.said None

pub returns-in-Assign-clause-fault : goal.returns-in-Assign-clause-fault
returns-in-Assign-clause-fault c = c.assign_statement.ensures.fault None
