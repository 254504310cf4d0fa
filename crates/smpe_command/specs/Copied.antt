-- What a service set would do in a copy of a database, or in an empty system.
use Rattle.std.specs.Prelude.{◌≡◌, ◌⊎◌, ℕ, List, Option, Result, Err}
use Rattle.std.specs.String.{string_bytes}
use Rattle.sqlite.specs.declared.error.Error.{Error}
use Rattle.sqlite_disk.specs.declared.Disk as disk
use Rattle.terms.specs.Types.{Text}
use Rattle.machine.specs.Machine as machine
use Rattle.machine.specs.Machine.{Files}
use Rattle.report.specs.declared.sink.Sink.{Ghosts as SinkGhosts}
use Rattle.store_schema.specs.Known.{told}
use Rattle.smpe_invocation.specs.declared.asked.CheckedSystem.{CheckedSystem}
use Rattle.smpe_invocation.specs.declared.asked.CheckedSystem.TheVariants.{Empty, Copied}
use Rattle.smpe_invocation.specs.declared.asked.CommandJob.{CommandJob}
use Rattle.smpe_invocation.specs.declared.asked.SystemCopy.{SystemCopy}
use Rattle.smpe_jobs.specs.declared.error.JobError.{JobError}
use Rattle.smpe_jobs.specs.declared.error.JobError.TheVariants.{Memory}
use Rattle.smpe_jobs.specs.Errors.{job_error}
use Rattle.smpe_rehearsal.specs.Copied.{TriesBytes, apply_to, copy_jobs}
use Rattle.smpe_rehearsal.specs.ServiceSet.{ChecksSet, IsTriedOn, tried_with}
use Rattle.smpe_command.specs.declared.host.Host.{Ghosts as HostGhosts}

module _ {H D M O : Type 0} (host : HostGhosts H D) (memory : disk.Ghosts M) (sink : SinkGhosts O) (h : H)
    (copy : SystemCopy) (out : O) where
  -- The files of the database were read, and the jobs were tried over a copy; or they were not read. Nothing else is
  -- asked of the surroundings.
  abbrev pub TriesCopied : List machine.Job → Result ℕ JobError → H → O → Type 0
  TriesCopied jobs r after out' =
      ((error : Error) × host.refuses h (string_bytes copy.db.name) error after × (r ≡ Err (job_error (told error)))
      × (out' ≡ out))
      ⊎ ((db log : List ℕ) × host.holds h (string_bytes copy.db.name) db log after
      × TriesBytes memory sink copy.zone copy.ids.items db log jobs out r out')

  -- A service set is tried with the commands that were given, on their date, or with those that apply all of it to the
  -- zone, on any date. Or memory ran out for the commands, and the database was not looked at.
  abbrev pub TriesCopy : Option CommandJob → List ℕ → Files → Result ℕ JobError → H → O → Type 0
  TriesCopy commands cntl files r after out' = ((r ≡ Err Memory) × (after ≡ h) × (out' ≡ out))
      ⊎ ((date : Text) × IsTriedOn commands date
      × TriesCopied (copy_jobs date (tried_with (apply_to copy.zone) commands cntl) files) r after out')

module _ {H D M O : Type 0} (host : HostGhosts H D) (memory : disk.Ghosts M) (sink : SinkGhosts O) where
  -- A service set is checked in an empty system, for which nothing is asked of the surroundings, or in a copy of a
  -- database.
  abbrev pub ChecksIn : CheckedSystem → H → O → Option CommandJob → List ℕ → Files → Result ℕ JobError → H → O → Type 0
  ChecksIn (Empty srel) h out commands cntl files r after out' =
      ChecksSet sink out srel commands cntl files r out' × (after ≡ h)
  ChecksIn (Copied copy) h out commands cntl files r after out' =
      TriesCopy host memory sink h copy out commands cntl files r after out'
