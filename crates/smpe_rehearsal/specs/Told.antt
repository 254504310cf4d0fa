-- What goes out about an answer, and the status.
use Rattle.std.specs.Prelude.{◌≡◌, ◌⊎◌, ◌<◌, ℕ, List, length, Result, Ok, Err, is_err, MatchResult}
use Rattle.report.specs.declared.sink.Sink.{Ghosts as SinkGhosts}
use Rattle.report.specs.Sent.{Sent}
use Rattle.store_schema.specs.declared.error.StoreError.{StoreError}
use Rattle.smpe_jobs.specs.declared.error.JobError.{JobError}
use Rattle.smpe_jobs.specs.declared.error.JobError.TheVariants.{Memory, Write}
use Rattle.smpe_jobs.specs.Errors.{job_error}
use Rattle.smpe_jobs.specs.declared.messages.Fault.{Fault}
use Rattle.smpe_jobs.specs.declared.messages.Fault.TheVariants.{Job}
use Rattle.smpe_why.specs.Telling.{Inquiry, IsTold}
use Rattle.smpe_why.specs.declared.found.LoadedZones.{LoadedZones}
use Rattle.smpe_why.specs.declared.told.WhyAnswer.{WhyAnswer}

-- the error of a job is the program's fault
abbrev pub job_told : Result ℕ JobError → Result ℕ Fault
job_told (Ok status) = Ok status
job_told (Err error) = Err (Job error)

module _ {O : Type 0} (sink : SinkGhosts O) (out out' : O) where
  -- The text goes to the sink, and the status is this one, or a fault if the text did not go out whole.
  abbrev pub TellsText : List ℕ → ℕ → Result ℕ JobError → Type 0
  TellsText text status r = Sent sink out out' text × (0 < length text → sink.has_failed out' ≡ is_err r)
      × MatchResult r (λ told. told ≡ status) (λ error. error ≡ Write)

  -- so what is told of the ids of a question, given what was found. Or memory ran out for it, and nothing went out.
  abbrev pub TellsFound : Inquiry → Result LoadedZones StoreError → Result ℕ JobError → Type 0
  TellsFound q (Ok found) r = ((r ≡ Err Memory) × (out' ≡ out))
      ⊎ ((told : WhyAnswer) × IsTold found.global found.zone found.related q told
      × TellsText told.text.items told.status r)
  TellsFound q (Err why) r = (r ≡ Err (job_error why)) × (out' ≡ out)
