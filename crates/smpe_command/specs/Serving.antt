-- What is done for a request: the status, or the fault, and what was printed.
use Rattle.std.specs.Prelude.{◌≡◌, ◌⊎◌, ℕ, Bool, List, [], ◌∷◌, Option, Some, None, map, option_map}
use Rattle.std.specs.Prelude.{Result, Ok, Err}
use Rattle.std.specs.String.{string_bytes}
use Rattle.sqlite.specs.Store.{Ghosts}
use Rattle.sqlite_disk.specs.declared.Disk as disk
use Rattle.terms.specs.CommandForms.{no_bypass}
use Rattle.terms.specs.Types.{Text, Bypass}
use Rattle.machine.specs.State.{ZoneDefinition}
use Rattle.machine.specs.Machine.{Files, NewZone, RunFiles}
use Rattle.report.specs.declared.sink.Sink.{Ghosts as SinkGhosts}
use Rattle.smpe_jobs.specs.ZoneDefinitions.{definition}
use Rattle.smpe_invocation.specs.declared.asked.CheckAnswer.{CheckAnswer}
use Rattle.smpe_invocation.specs.declared.asked.CheckedSystem.{CheckedSystem}
use Rattle.smpe_invocation.specs.declared.asked.CommandJob.{CommandJob}
use Rattle.smpe_invocation.specs.declared.asked.Invocation.{Invocation}
use Rattle.smpe_invocation.specs.declared.asked.Invocation.TheVariants.{Zone, Run, List as ListOf, Why, Check}
use Rattle.smpe_invocation.specs.declared.asked.Invocation.TheVariants.{Lint, Mend, Migrate, Verify}
use Rattle.smpe_invocation.specs.declared.asked.RunOptions.{RunOptions}
use Rattle.smpe_invocation.specs.declared.asked.ServiceSet.{ServiceSet}
use Rattle.smpe_invocation.specs.declared.asked.SetFiles.{SetFiles}
use Rattle.smpe_invocation.specs.declared.asked.SetFiles.TheVariants.{Records, AsTheyCome}
use Rattle.smpe_invocation.specs.declared.asked.WhyOptions.{WhyOptions}
use Rattle.smpe_invocation.specs.declared.fault.ArgFault.TheVariants.{BadOperand}
use Rattle.smpe_jobs.specs.declared.error.JobError.{JobError}
use Rattle.smpe_jobs.specs.declared.error.JobError.TheVariants.{Memory}
use Rattle.smpe_jobs.specs.declared.jobs.Answer.{Answer}
use Rattle.smpe_jobs.specs.declared.messages.Fault.{Fault}
use Rattle.smpe_jobs.specs.declared.messages.Fault.TheVariants.{Arg, Job}
use Rattle.smpe_jobs.specs.Ending.{answer_of}
use Rattle.smpe_jobs.specs.ListJob.{list_records}
use Rattle.smpe_jobs.specs.Messages.{answer_status}
use Rattle.store_schema.specs.declared.error.StoreError.{StoreError}
use Rattle.smpe_why.specs.BypassText.{IsBypassOf}
use Rattle.smpe_why.specs.Telling.{Inquiry}
use Rattle.smpe_why.specs.declared.found.LoadedZones.{LoadedZones}
use Rattle.smpe_verify.specs.declared.verification.Verification.{Verification}
use Rattle.smpe_command.specs.declared.host.Host.{Ghosts as HostGhosts}
use Rattle.smpe_command.specs.Careful.{ChecksIfCareful}
use Rattle.smpe_command.specs.Copied.{ChecksIn}
use Rattle.smpe_command.specs.Database.{FoundOver, JobOver, MigratesOver, VerifiedOver}
use Rattle.smpe_command.specs.Reading.{ReadsAll}
use Rattle.smpe_command.specs.Linting.{ServesLint}
use Rattle.smpe_command.specs.Shop.{ServesShop}
use Rattle.smpe_command.specs.Mending.{ServesMend}
use Rattle.smpe_command.specs.Packages.{ServesPackage}
use Rattle.smpe_command.specs.Told.{TellsMigrated, TellsVerified, TellsZone}
use Rattle.smpe_rehearsal.specs.Told.{TellsFound, job_told}

-- the status of a job's answer is the program's, and its error the program's fault
abbrev pub status_told : Result Answer JobError → Result ℕ Fault
status_told (Ok answer) = Ok (answer_status (answer_of answer))
status_told (Err error) = Err (Job error)

abbrev pub IsBypassIn : Option Text → Option Bypass → Type 0
IsBypassIn None bypass = bypass ≡ Some no_bypass
IsBypassIn (Some list) bypass = IsBypassOf list bypass

-- the BYPASS of the words: no member, or what ACCEPT takes as the list of BYPASS
abbrev pub IsGiven : WhyOptions → Option Bypass → Type 0
IsGiven options bypass = IsBypassIn (option_map string_bytes options.bypass) bypass

-- what they ask about their ids
abbrev pub inquiry : WhyOptions → Bypass → Inquiry
inquiry options bypass = record {
  ids = options.ids.items;
  together = options.together;
  groupextend = options.group;
  bypass = bypass;
}

module _ {H D O : Type 0} (host : HostGhosts H D) (g : Ghosts D) (sink : SinkGhosts O) (h : H) (db : Text) (out : O)
  where
    -- A zone is defined by a job of its own, which prints nothing, and its line is printed.
    abbrev pub ServesZone : ZoneDefinition → Result ℕ JobError → H → O → Type 0
    ServesZone d r after out' = (answer : Result Answer JobError) × (m : O)
        × JobOver host g sink h db (NewZone d) out answer after m × TellsZone sink m out' d.name answer r

    -- A careful job runs, or is refused and nothing runs. Another one runs.
    abbrev pub RunsIf : Bool → Text → List ℕ → Files → Result ℕ Fault → H → O → Type 0
    RunsIf careful date cntl files r after out' =
        ((fault : Fault) × ChecksIfCareful host g h db cntl careful (Err fault) after × (r ≡ Err fault) × (out' ≡ out))
        ⊎ ((m : H) × ChecksIfCareful host g h db cntl careful (Ok tt) m × (answer : Result Answer JobError)
        × JobOver host g sink m db (RunFiles date cntl files) out answer after out' × (r ≡ status_told answer))

    -- A listing is the job of its two commands, on any date, or memory ran out for these.
    abbrev pub ServesList : Text → Result ℕ Fault → H → O → Type 0
    ServesList zone r after out' = ((r ≡ Err (Job Memory)) × (after ≡ h) × (out' ≡ out))
        ⊎ ((date : Text) × (answer : Result Answer JobError) × JobOver host g sink h db
        (RunFiles date (list_records zone) (record { ptfin = []; holds = [] })) out answer after out'
        × (r ≡ status_told answer))

    -- The zone is looked for, and what is asked of it is told.
    abbrev pub AsksZone : Text → Inquiry → Result ℕ JobError → H → O → Type 0
    AsksZone zone q r after out' = (found : Result LoadedZones StoreError) × FoundOver host g h db zone found after
        × TellsFound sink out out' q found r

    -- The ids are asked about, with the BYPASS of the words. If ACCEPT does not take its list, that is a bad operand;
    -- or memory ran out for it. Then the database is not looked at.
    abbrev pub ServesWhy : WhyOptions → Result ℕ Fault → H → O → Type 0
    ServesWhy options r after out' =
        ((r ≡ Err (Job Memory)) × (after ≡ h) × (out' ≡ out))
        ⊎ ((IsGiven options None × (r ≡ Err (Arg BadOperand)) × (after ≡ h) × (out' ≡ out))
        ⊎ ((bypass : Bypass) × IsGiven options (Some bypass) × (told : Result ℕ JobError)
        × AsksZone options.zone (inquiry options bypass) told after out' × (r ≡ job_told told)))

    -- All zones are looked at, and it is told whether they are closed.
    abbrev pub ServesVerify : Result ℕ JobError → H → O → Type 0
    ServesVerify r after out' = (found : Result Verification StoreError) × VerifiedOver host g h db found after
        × TellsVerified sink out out' found r

    abbrev pub ServesMigrate : Result ℕ JobError → H → O → Type 0
    ServesMigrate r after out' = (done : Result (Unit {0}) StoreError) × MigratesOver host g h db done after
        × TellsMigrated sink out out' done r

-- The files of a job are read in this order, or the first that cannot be read is reported, and nothing else is done.
abbrev pub ServesRun : {H D O : Type 0} → HostGhosts H D → Ghosts D → SinkGhosts O → H → Text → O → RunOptions
    → Result ℕ Fault → H → O → Type 0
ServesRun host g sink h db out options r after out' =
    let names = Some (string_bytes options.cntl) ∷ option_map string_bytes options.ptfin
    ∷ option_map string_bytes options.hold ∷ [] in
    ((fault : Fault) × ReadsAll host h names (Err fault) after × (r ≡ Err fault) × (out' ≡ out))
    ⊎ ((m : _) × (cntl ptfin hold : List ℕ) × ReadsAll host h names (Ok (cntl ∷ ptfin ∷ hold ∷ [])) m
    × RunsIf host g sink m db out options.careful options.date cntl (record { ptfin = ptfin; holds = hold }) r after
    out')

module _ {H D M O : Type 0} (host : HostGhosts H D) (memory : disk.Ghosts M)
    (sink : SinkGhosts O) where
  -- The records of a set are read, or the first file that cannot be read is reported, and nothing else is done.
  abbrev pub ServesRecords : H → O → CheckedSystem → Option CommandJob → Text → Option Text → Result ℕ Fault → H → O
      → Type 0
  ServesRecords h out system commands ptfin hold r after out' =
      let names = option_map (λ c. string_bytes c.cntl) commands ∷ Some ptfin ∷ hold ∷ [] in
      ((fault : Fault) × ReadsAll host h names (Err fault) after × (r ≡ Err fault) × (out' ≡ out))
      ⊎ ((m : H) × (cntl sysmods holds : List ℕ) × ReadsAll host h names (Ok (cntl ∷ sysmods ∷ holds ∷ [])) m
      × (status : Result ℕ JobError)
      × ChecksIn host memory sink system m out commands cntl (record { ptfin = sysmods; holds = holds }) status after
      out' × (r ≡ job_told status))

  -- A shop's own files are checked with commands, and without commands the package that they come to is answered for.
  abbrev pub ServesFiles : H → O → CheckedSystem → CheckAnswer → List Text → Option CommandJob → Result ℕ Fault → H → O
      → Type 0
  ServesFiles h out system answer names None r after out' =
      ServesPackage host memory sink h out system answer names r after out'
  ServesFiles h out system answer names (Some commands) r after out' =
      ServesShop host memory sink h out system (Some commands) (map (λ name. Some name) names) r after out'

  -- so the set of these files
  abbrev pub ServesSet : H → O → CheckedSystem → CheckAnswer → Option CommandJob → SetFiles → Result ℕ Fault → H → O
      → Type 0
  ServesSet h out system answer commands (Records ptfin hold) r after out' =
      ServesRecords h out system commands (string_bytes ptfin) (option_map string_bytes hold) r after out'
  ServesSet h out system answer commands (AsTheyCome names) r after out' =
      ServesFiles h out system answer (map string_bytes names.items) commands r after out'

  abbrev pub ServesCheck : H → O → CheckedSystem → ServiceSet → CheckAnswer → Result ℕ Fault → H → O → Type 0
  ServesCheck h out system set answer r after out' = ServesSet h out system answer set.commands set.files r after out'

module _ {H D M O : Type 0} (host : HostGhosts H D) (g : Ghosts D) (memory : disk.Ghosts M)
    (sink : SinkGhosts O) where
  abbrev pub Serves : H → Invocation → O → Result ℕ Fault → H → O → Type 0
  Serves h (Zone db zone) out r after out' = (told : Result ℕ JobError)
      × ServesZone host g sink h (string_bytes db.name) out
      (definition zone.name zone.kind zone.srel zone.related) told after out'
      × (r ≡ job_told told)
  Serves h (Run db options) out r after out' = ServesRun host g sink h (string_bytes db.name) out options r after out'
  Serves h (ListOf db zone) out r after out' = ServesList host g sink h (string_bytes db.name) out zone r after out'
  Serves h (Why db options) out r after out' = ServesWhy host g sink h (string_bytes db.name) out options r after out'
  Serves h (Check system set answer) out r after out' =
      ServesCheck host memory sink h out system set answer r after out'
  Serves h (Mend system options) out r after out' = ServesMend host memory sink h out system options.ids.items
      (map (λ name. Some (string_bytes name)) options.files.items) r after out'
  Serves h (Lint options) out r after out' = ServesLint host sink h out options r after out'
  Serves h (Migrate db) out r after out' = (told : Result ℕ JobError)
      × ServesMigrate host g sink h (string_bytes db.name) out told after out' × (r ≡ job_told told)
  Serves h (Verify db) out r after out' = (told : Result ℕ JobError)
      × ServesVerify host g sink h (string_bytes db.name) out told after out' × (r ≡ job_told told)
