use Rattle.machine_laws.proofs.Greatest.{installs_greatest, restores_greatest}
use Rattle.machine_laws.proofs.answers.greatest_is_kept.Goals as goal

pub returns-clause-install : goal.returns-clause-install
returns-clause-install c = installs_greatest

pub returns-clause-restore : goal.returns-clause-restore
returns-clause-restore c = restores_greatest
