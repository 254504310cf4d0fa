-- What has to be done so that given SYSMODs go on, given a package of a shop's own files.
use Rattle.std.specs.Prelude.{◌≡◌, ◌⊎◌, ℕ, List, [], length, max, Option, Result, Ok, Err}
use Rattle.sqlite_disk.specs.declared.Disk as disk
use Rattle.terms.specs.Types.{Text, Id}
use Rattle.report.specs.declared.sink.Sink.{Ghosts as SinkGhosts}
use Rattle.smpe_package.specs.Package.{IsPackage}
use Rattle.smpe_package.specs.declared.carried.Package.{Package}
use Rattle.smpe_invocation.specs.declared.asked.CheckedSystem.{CheckedSystem}
use Rattle.smpe_jobs.specs.declared.error.JobError.{JobError}
use Rattle.smpe_jobs.specs.declared.messages.Fault.{Fault}
use Rattle.smpe_jobs.specs.declared.messages.Fault.TheVariants.{Job}
use Rattle.smpe_rehearsal.specs.declared.receiving.Rehearsed.{Rehearsed}
use Rattle.smpe_rehearsal.specs.Prepared.{IsNotCarried}
use Rattle.smpe_rehearsal.specs.Rehearsed.{Rehearses}
use Rattle.smpe_rehearsal.specs.Told.{TellsText, job_told}
use Rattle.smpe_answer.specs.Mended.{IsMendAnswer}
use Rattle.smpe_answer.specs.declared.asked_ids.Answer.{Answer}
use Rattle.smpe_command.specs.declared.host.Host.{Ghosts as HostGhosts}
use Rattle.smpe_command.specs.declared.settled.Settled.{Settled}
use Rattle.smpe_command.specs.Packages.{Settles, TellsAnswer}
use Rattle.smpe_command.specs.Reading.{FailsToRead, ReadsAll}
use Rattle.smpe_command.specs.Shop.{raised_to}

-- It is told what has to be done so that the ids go on, given the zones after RECEIVE. The status is that of the
-- answer, or that of RECEIVE if it is greater.
abbrev pub IsMended : Rehearsed → List Id → Answer → Type 0
IsMended z ids told = (answer : Answer) × IsMendAnswer z.zones ids answer × (told.text.items ≡ answer.text.items)
    × (told.status ≡ max answer.status z.status)

-- The package is received in the system, and it is told what has to be done so that the ids go on; or that failed.
abbrev pub MendsSettled : {M O : Type 0} → disk.Ghosts M → SinkGhosts O → Settled → List Id → O → Result ℕ JobError → O
    → Type 0
MendsSettled memory sink s ids out r out' =
    ((error : JobError) × Rehearses memory s.system s.prepared (Err error) × (r ≡ Err error) × (out' ≡ out))
    ⊎ ((z : Rehearsed) × Rehearses memory s.system s.prepared (Ok z)
    × TellsAnswer sink out (IsMended z ids) r out')

module _ {H D M O : Type 0} (host : HostGhosts H D) (memory : disk.Ghosts M) (sink : SinkGhosts O) where
  module _ (system : CheckedSystem) (ids : List Id) (h : H) (p : Package) where
    -- The package is settled, and what has to be done is told.
    abbrev pub MendsCarried : O → Result ℕ Fault → H → O → Type 0
    MendsCarried out r after out' =
        ((fault : Fault) × Settles host memory h system [] p (Err fault) after × (r ≡ Err fault) × (out' ≡ out))
        ⊎ ((s : Settled) × Settles host memory h system [] p (Ok s) after × (told : Result ℕ JobError)
        × MendsSettled memory sink s ids out told out' × (r ≡ job_told told))

    abbrev pub MendsAfter : Result ℕ JobError → O → Result ℕ Fault → H → O → Type 0
    MendsAfter (Ok status) out r after out' = (mended : Result ℕ Fault) × MendsCarried out mended after out'
        × (r ≡ raised_to status mended)
    MendsAfter (Err error) out r after out' = (r ≡ Err (Job error)) × (after ≡ h) × (out' ≡ out)

    -- so after the remarks on the package
    abbrev pub MendsPackage : O → Result ℕ Fault → H → O → Type 0
    MendsPackage out r after out' = (mid : O) × (status : Result ℕ JobError)
        × TellsText sink out mid p.remarks.items p.status status × MendsAfter status mid r after out'

  -- The files are read in their order, and it is told what has to be done, given the package that they come to. Or the
  -- first file that cannot be read is reported, or they cannot be carried, and nothing else is done.
  abbrev pub ServesMend : H → O → CheckedSystem → List Id → List (Option Text) → Result ℕ Fault → H → O → Type 0
  ServesMend h out system ids names r after out' =
      ((fault : Fault) × FailsToRead host h names fault after × (r ≡ Err fault) × (out' ≡ out))
      ⊎ ((m : H) × (files : List (List ℕ)) × ReadsAll host h names (Ok files) m
      × (((fault : Fault) × IsNotCarried fault × (r ≡ Err fault) × (after ≡ m) × (out' ≡ out))
      ⊎ ((p : Package) × IsPackage (length files) p × MendsPackage system ids m p out r after out')))
