use Rattle.machine_laws.proofs.Causers.{install_caused, restore_caused}
use Rattle.machine_laws.proofs.answers.failures_are_caused.Goals as goal

pub returns-clause-install : goal.returns-clause-install
returns-clause-install c = install_caused

pub returns-clause-restore : goal.returns-clause-restore
returns-clause-restore c = restore_caused
