use Rattle.machine_laws.proofs.StepChoice.{install_chooses, step_keeps_choice}
use Rattle.machine_laws.proofs.keeps.choice_is_kept.Goals as goal

pub returns-clause-install : goal.returns-clause-install
returns-clause-install c = install_chooses

pub returns-clause-step : goal.returns-clause-step
returns-clause-step c = step_keeps_choice
