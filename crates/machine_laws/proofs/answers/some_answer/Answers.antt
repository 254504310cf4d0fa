use Rattle.machine_laws.proofs.FileRead.{ptfin_read, hold_file_read}
use Rattle.machine_laws.proofs.CommandFileRead.{command_file_read}
use Rattle.machine_laws.proofs.StepAnswered.{step_some, step_answered}
use Rattle.machine_laws.proofs.InstallRuns.{decision_installed}
use Rattle.machine_laws.proofs.JobsAnswered.{job_answered, jobs_answered}
use Rattle.machine_laws.proofs.answers.some_answer.Goals as goal

pub returns-clause-ptfin : goal.returns-clause-ptfin
returns-clause-ptfin c = ptfin_read

pub returns-clause-hold_file : goal.returns-clause-hold_file
returns-clause-hold_file c = hold_file_read

pub returns-clause-command_file : goal.returns-clause-command_file
returns-clause-command_file c = command_file_read

pub returns-clause-plain : goal.returns-clause-plain
returns-clause-plain c = step_some

pub returns-clause-decision : goal.returns-clause-decision
returns-clause-decision c = decision_installed

pub returns-clause-step : goal.returns-clause-step
returns-clause-step c = step_answered

pub returns-clause-job : goal.returns-clause-job
returns-clause-job c = job_answered

pub returns-clause-jobs : goal.returns-clause-jobs
returns-clause-jobs c = jobs_answered
