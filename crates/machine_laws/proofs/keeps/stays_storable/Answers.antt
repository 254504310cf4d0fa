use Rattle.machine_laws.proofs.StepForms.{step_storable, job_storable, jobs_storable}
use Rattle.machine_laws.proofs.keeps.stays_storable.Goals as goal

pub returns-clause-step : goal.returns-clause-step
returns-clause-step c = step_storable

pub returns-clause-job : goal.returns-clause-job
returns-clause-job c = job_storable

pub returns-clause-jobs : goal.returns-clause-jobs
returns-clause-jobs c = jobs_storable
