-- A shop's own files that are checked with commands: the package that they come to.
use Rattle.std.specs.Prelude.{◌≡◌, ◌⊎◌, ℕ, max, List, ◌∷◌, length, Option, option_map, Result, Ok, Err}
use Rattle.std.specs.String.{string_bytes}
use Rattle.sqlite_disk.specs.declared.Disk as disk
use Rattle.terms.specs.Types.{Text}
use Rattle.machine.specs.Machine.{Files}
use Rattle.report.specs.declared.sink.Sink.{Ghosts as SinkGhosts}
use Rattle.mcs.specs.declared.file.Item.{Item}
use Rattle.mcs.specs.declared.hold_item.HoldItem.{HoldItem}
use Rattle.smpe_package.specs.Package.{AreRecords, IsPackage}
use Rattle.smpe_package.specs.declared.carried.Package.{Package}
use Rattle.smpe_invocation.specs.declared.asked.CheckedSystem.{CheckedSystem}
use Rattle.smpe_invocation.specs.declared.asked.CommandJob.{CommandJob}
use Rattle.smpe_jobs.specs.declared.error.JobError.{JobError}
use Rattle.smpe_jobs.specs.declared.messages.Fault.{Fault}
use Rattle.smpe_jobs.specs.declared.messages.Fault.TheVariants.{Job}
use Rattle.smpe_rehearsal.specs.Prepared.{IsNotCarried}
use Rattle.smpe_rehearsal.specs.Told.{TellsText, job_told}
use Rattle.smpe_command.specs.declared.host.Host.{Ghosts as HostGhosts}
use Rattle.smpe_command.specs.Copied.{ChecksIn}
use Rattle.smpe_command.specs.Reading.{FailsToRead, ReadsAll}

-- the status, or a greater one
abbrev pub raised_to : ℕ → Result ℕ Fault → Result ℕ Fault
raised_to status (Ok checked) = Ok (max checked status)
raised_to status (Err fault) = Err fault

module _ {H D M O : Type 0} (host : HostGhosts H D) (memory : disk.Ghosts M) (sink : SinkGhosts O) where
  module _ (system : CheckedSystem) (commands : Option CommandJob) (cntl : List ℕ) (h : H) where
    -- RECEIVE reads records of just these items and holds, and they are checked with the commands. Or the records are
    -- not made, and nothing else is done.
    abbrev pub ChecksItems : O → List Item → List HoldItem → Result ℕ Fault → H → O → Type 0
    ChecksItems out items holds r after out' =
        ((fault : Fault) × IsNotCarried fault × (r ≡ Err fault) × (after ≡ h) × (out' ≡ out))
        ⊎ ((files : Files) × AreRecords items holds files.ptfin files.holds × (status : Result ℕ JobError)
        × ChecksIn host memory sink system h out commands cntl files status after out' × (r ≡ job_told status))

    -- The remarks on the package went out, or did not, and then nothing else was done.
    abbrev pub ChecksAfter : Package → Result ℕ JobError → O → Result ℕ Fault → H → O → Type 0
    ChecksAfter p (Ok status) out r after out' = (checked : Result ℕ Fault)
        × ChecksItems out p.items.items p.hold_items.items checked after out' × (r ≡ raised_to status checked)
    ChecksAfter p (Err error) out r after out' = (r ≡ Err (Job error)) × (after ≡ h) × (out' ≡ out)

    -- The package is checked, after its remarks.
    abbrev pub ChecksPackage : Package → O → Result ℕ Fault → H → O → Type 0
    ChecksPackage p out r after out' = (mid : O) × (status : Result ℕ JobError)
        × TellsText sink out mid p.remarks.items p.status status × ChecksAfter p status mid r after out'

    -- So many files become a package, which is checked; or they do not.
    abbrev pub CarriesAndChecks : ℕ → O → Result ℕ Fault → H → O → Type 0
    CarriesAndChecks given out r after out' =
        ((fault : Fault) × IsNotCarried fault × (r ≡ Err fault) × (after ≡ h) × (out' ≡ out))
        ⊎ ((p : Package) × IsPackage given p × ChecksPackage p out r after out')

  -- The command file is read, if there is one, and then the shop's files, in their order; or the first that cannot be
  -- read is reported, and nothing else is done. What they come to is checked.
  abbrev pub ServesShop : H → O → CheckedSystem → Option CommandJob → List (Option Text) → Result ℕ Fault → H → O
      → Type 0
  ServesShop h out system commands names r after out' =
      let all = option_map (λ c. string_bytes c.cntl) commands ∷ names in
      ((fault : Fault) × FailsToRead host h all fault after × (r ≡ Err fault) × (out' ≡ out))
      ⊎ ((m : H) × (cntl : List ℕ) × (files : List (List ℕ)) × ReadsAll host h all (Ok (cntl ∷ files)) m
      × CarriesAndChecks system commands cntl m (length files) out r after out')
