-- What goes out about an answer, and the status.
use Rattle.std.specs.Prelude.{◌≡◌, ◌⊎◌, ℕ, Result, Ok, Err}
use Rattle.terms.specs.Types.{Text}
use Rattle.report.specs.declared.sink.Sink.{Ghosts as SinkGhosts}
use Rattle.store_schema.specs.declared.error.StoreError.{StoreError}
use Rattle.smpe_jobs.specs.declared.error.JobError.{JobError}
use Rattle.smpe_jobs.specs.declared.error.JobError.TheVariants.{Memory}
use Rattle.smpe_jobs.specs.declared.jobs.Answer.{Answer}
use Rattle.smpe_jobs.specs.Ending.{answer_of}
use Rattle.smpe_jobs.specs.Errors.{job_error}
use Rattle.smpe_jobs.specs.Messages.{answer_status, migrated_text, zone_text}
use Rattle.smpe_rehearsal.specs.Told.{TellsText}
use Rattle.smpe_verify.specs.Telling.{IsTold as IsToldOf}
use Rattle.smpe_verify.specs.declared.verification.Verification.{Verification}
use Rattle.smpe_verify.specs.declared.told.VerifyAnswer.{VerifyAnswer}

module _ {O : Type 0} (sink : SinkGhosts O) (out out' : O) where
  -- The line of a zone that was to be defined goes out, with the status of the answer.
  abbrev pub TellsZone : Text → Result Answer JobError → Result ℕ JobError → Type 0
  TellsZone name (Ok answer) r =
      TellsText sink out out' (zone_text name (answer_of answer)) (answer_status (answer_of answer)) r
  TellsZone name (Err error) r = (r ≡ Err error) × (out' ≡ out)

  -- so the line of a migrated database, with the status 0
  abbrev pub TellsMigrated : Result (Unit {0}) StoreError → Result ℕ JobError → Type 0
  TellsMigrated (Ok done) r = TellsText sink out out' migrated_text 0 r
  TellsMigrated (Err why) r = (r ≡ Err (job_error why)) × (out' ≡ out)

  -- so what is told of the zones, given whether they are closed
  abbrev pub TellsVerified : Result Verification StoreError → Result ℕ JobError → Type 0
  TellsVerified (Ok found) r = ((r ≡ Err Memory) × (out' ≡ out))
      ⊎ ((told : VerifyAnswer) × IsToldOf found told × TellsText sink out out' told.text.items told.status r)
  TellsVerified (Err why) r = (r ≡ Err (job_error why)) × (out' ≡ out)
