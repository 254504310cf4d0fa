use Rattle.smpe_rehearsal.proofs.Received.{loads_received_holds}
use Rattle.smpe_rehearsal.proofs.laws.loads_received.Goals as goal

pub returns : goal.returns
returns g c = loads_received_holds g.S.Store
