use Rattle.stream_laws.proofs.Installed.{install_stays_of_stream}
use Rattle.stream_laws.proofs.laws.install_stays_of_stream.Goals as goal

pub returns : goal.returns
returns c = install_stays_of_stream
