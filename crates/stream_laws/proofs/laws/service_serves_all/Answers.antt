use Rattle.stream_laws.proofs.Served.{service_serves_all}
use Rattle.stream_laws.proofs.laws.service_serves_all.Goals as goal

pub returns : goal.returns
returns c = service_serves_all
