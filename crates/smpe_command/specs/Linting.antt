-- What is told of a service stream.
use Rattle.std.specs.Prelude.{◌≡◌, ◌⊎◌, ℕ, List, length, map, Some, Result, Ok, Err}
use Rattle.std.specs.String.{string_bytes}
use Rattle.terms.specs.Types.{Srel}
use Rattle.report.specs.declared.sink.Sink.{Ghosts as SinkGhosts}
use Rattle.smpe_invocation.specs.declared.asked.LintOptions.{LintOptions}
use Rattle.smpe_jobs.specs.declared.error.JobError.{JobError}
use Rattle.smpe_jobs.specs.declared.error.JobError.TheVariants.{Memory}
use Rattle.smpe_jobs.specs.declared.messages.Fault.{Fault}
use Rattle.smpe_lint.specs.Linted.{CarriesCleanStream, IsCleanStatus}
use Rattle.smpe_lint.specs.declared.answer.LintAnswer.{LintAnswer}
use Rattle.smpe_command.specs.declared.host.Host.{Ghosts as HostGhosts}
use Rattle.smpe_command.specs.Reading.{FailsToRead, ReadsAll}
use Rattle.smpe_rehearsal.specs.Told.{TellsText, job_told}

-- The answer has the status of a clean stream only if the stream of so many files is clean.
pub record IsSound (given : ℕ) (srel : Srel) (answer : LintAnswer) : Type 0 where
  pub clean : IsCleanStatus answer.status → CarriesCleanStream given srel
  pub known : IsCleanStatus answer.status ⊎ (answer.status ≡ 8) ⊎ (answer.status ≡ 12)

module _ {O : Type 0} (sink : SinkGhosts O) (out : O) where
  -- Such an answer is told; or memory ran out for it, and nothing went out.
  abbrev pub TellsLint : ℕ → Srel → Result ℕ JobError → O → Type 0
  TellsLint given srel r out' = ((r ≡ Err Memory) × (out' ≡ out))
      ⊎ ((answer : LintAnswer) × IsSound given srel answer × TellsText sink out out' answer.text.items answer.status r)

-- The files are read in their order, and the answer is told; or the first that cannot be read is reported, and nothing
-- else is done.
abbrev pub ServesLint : {H D O : Type 0} → HostGhosts H D → SinkGhosts O → H → O → LintOptions → Result ℕ Fault → H
    → O → Type 0
ServesLint host sink h out options r after out' =
    let names = map (λ name. Some (string_bytes name)) options.files.items in
    ((fault : Fault) × FailsToRead host h names fault after × (r ≡ Err fault) × (out' ≡ out))
    ⊎ ((files : List (List ℕ)) × ReadsAll host h names (Ok files) after × (told : Result ℕ JobError)
    × TellsLint sink out (length files) options.srel told out' × (r ≡ job_told told))
