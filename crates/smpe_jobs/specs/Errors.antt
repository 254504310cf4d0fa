-- Why a job ends early, if its store says why.
use Rattle.store_schema.specs.declared.error.StoreError.{StoreError}
use Rattle.store_schema.specs.declared.error.StoreError.TheVariants as store
use Rattle.smpe_jobs.specs.declared.error.JobError.{JobError}
use Rattle.smpe_jobs.specs.declared.error.JobError.TheVariants.{Memory, Store}

-- the error of a job, from one of its store
abbrev pub job_error : StoreError → JobError
job_error store.Memory = Memory
job_error store.Fault = Store store.Fault
job_error store.OtherSchema = Store store.OtherSchema
job_error store.NoState = Store store.NoState
