use Rattle.stream_laws.proofs.Installed.{install_loses_no_fix}
use Rattle.stream_laws.proofs.laws.install_loses_no_fix.Goals as goal

pub returns : goal.returns
returns c = install_loses_no_fix
