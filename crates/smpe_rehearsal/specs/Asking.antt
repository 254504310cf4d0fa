-- What a package's SYSMODs would become.
use Rattle.std.specs.Prelude.{◌≡◌, ℕ, List, Result}
use Rattle.sqlite_disk.specs.declared.Disk as disk
use Rattle.terms.specs.Types.{Text}
use Rattle.machine.specs.Machine as machine
use Rattle.machine.specs.Machine.{Files}
use Rattle.report.specs.declared.sink.Sink.{Ghosts as SinkGhosts}
use Rattle.smpe_jobs.specs.declared.error.JobError.{JobError}
use Rattle.smpe_rehearsal.specs.declared.values.Prepared.{Prepared}
use Rattle.smpe_rehearsal.specs.declared.values.System.{System}
use Rattle.smpe_rehearsal.specs.declared.values.System.TheVariants.{Empty, Copied}
use Rattle.smpe_rehearsal.specs.Copied.{TriesBytes, copy_jobs}
use Rattle.smpe_rehearsal.specs.ServiceSet.{JobsInMemory, greatest_told, set_jobs}

-- the records of the jobs
abbrev pub files_of : Prepared → Files
files_of p = record { ptfin = p.jobs.files.ptfin.items; holds = p.jobs.files.hold.items }

-- The jobs of a service set with these commands ran in an empty system, and the status is the greatest one.
abbrev pub TriesEmpty : {O : Type 0} → SinkGhosts O → O → Text → List ℕ → Files → Result ℕ JobError → O → Type 0
TriesEmpty sink out srel cntl files r out' = (date : Text) × (answers : Result (List machine.Answer) JobError)
    × JobsInMemory sink (set_jobs srel date cntl files) out (λ all. all) answers out' × (r ≡ greatest_told answers)

module _ {M O : Type 0} (memory : disk.Ghosts M) (sink : SinkGhosts O) (out : O) where
  -- The jobs that ask about the package ran in the system. In a copy, the ids were asked about afterwards.
  abbrev pub Asks : System → Prepared → List Text → Result ℕ JobError → O → Type 0
  Asks (Empty srel) p ids r out' = TriesEmpty sink out srel p.jobs.files.cntl.items (files_of p) r out'
  Asks (Copied bytes zone) p ids r out' = (date : Text) × TriesBytes memory sink zone ids bytes.db.items bytes.log.items
      (copy_jobs date p.jobs.files.cntl.items (files_of p)) out r out'
