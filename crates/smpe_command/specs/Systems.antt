-- The system in which something is asked about, as it is read.
use Rattle.std.specs.Prelude.{◌≡◌, Result, Ok, Err}
use Rattle.std.specs.String.{string_bytes}
use Rattle.sqlite.specs.declared.error.Error.{Error}
use Rattle.store_schema.specs.Known.{told}
use Rattle.smpe_invocation.specs.declared.asked.CheckedSystem.{CheckedSystem}
use Rattle.smpe_invocation.specs.declared.asked.CheckedSystem.TheVariants.{Empty, Copied}
use Rattle.smpe_jobs.specs.declared.error.JobError.{JobError}
use Rattle.smpe_jobs.specs.Errors.{job_error}
use Rattle.smpe_rehearsal.specs.declared.values.DatabaseBytes.{DatabaseBytes}
use Rattle.smpe_rehearsal.specs.declared.values.System.{System}
use Rattle.smpe_rehearsal.specs.declared.values.System.TheVariants as system
use Rattle.smpe_command.specs.declared.host.Host.{Ghosts as HostGhosts}

-- For an empty system nothing is asked of the surroundings. The files of a database are only read, or cannot be read.
abbrev pub ReadsSystem : {H D : Type 0} → HostGhosts H D → H → CheckedSystem → Result System JobError → H → Type 0
ReadsSystem host h (Empty srel) r after = (r ≡ Ok (system.Empty srel)) × (after ≡ h)
ReadsSystem host h (Copied copy) (Ok read) after = (bytes : DatabaseBytes)
    × host.holds h (string_bytes copy.db.name) bytes.db.items bytes.log.items after
    × (read ≡ system.Copied bytes copy.zone)
ReadsSystem host h (Copied copy) (Err why) after = (error : Error)
    × host.refuses h (string_bytes copy.db.name) error after × (why ≡ job_error (told error))
