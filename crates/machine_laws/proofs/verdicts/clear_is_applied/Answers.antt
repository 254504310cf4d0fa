use Rattle.machine_laws.proofs.ClearInstall.{clear_applied}
use Rattle.machine_laws.proofs.verdicts.clear_is_applied.Goals as goal

pub returns : goal.returns
returns c = clear_applied
