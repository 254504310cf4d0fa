use Rattle.stream_laws.proofs.Served.{served_zones_pass}
use Rattle.stream_laws.proofs.laws.served_zones_pass.Goals as goal

pub returns : goal.returns
returns c = served_zones_pass
