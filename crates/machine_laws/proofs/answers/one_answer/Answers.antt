use Rattle.machine_laws.proofs.FileAnswers.{ptfin_once, hold_file_once, command_file_once}
use Rattle.machine_laws.proofs.StepAnswers.{steps_once, job_once, jobs_once}
use Rattle.machine_laws.proofs.answers.one_answer.Goals as goal

pub returns-clause-ptfin : goal.returns-clause-ptfin
returns-clause-ptfin c = ptfin_once

pub returns-clause-hold_file : goal.returns-clause-hold_file
returns-clause-hold_file c = hold_file_once

pub returns-clause-command_file : goal.returns-clause-command_file
returns-clause-command_file c = command_file_once

pub returns-clause-step : goal.returns-clause-step
returns-clause-step c = steps_once

pub returns-clause-job : goal.returns-clause-job
returns-clause-job c = job_once

pub returns-clause-jobs : goal.returns-clause-jobs
returns-clause-jobs c = jobs_once
