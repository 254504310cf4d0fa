-- A package of a shop's own files is asked about: the answer, and its certificate.
use Rattle.std.specs.Prelude.{◌≡◌, ◌≢◌, ◌⊎◌, ◌++◌, ◌&&◌, ℕ, Bool, true, false, not, max, List, [], ◌∷◌, length, map}
use Rattle.std.specs.Prelude.{Vec, Option, None, Some, option_map, Result, Ok, Err, codes, count_by}
use Rattle.std.specs.IoError.{error_kind}
use Rattle.std.specs.declared.alloc.Global.{Global as AnyGlobal}
use Rattle.std.specs.List.{flat_map, list_any}
use Rattle.std.specs.String.{string_bytes}
use Rattle.std.specs.declared.io.Error.{Error}
use Rattle.std.specs.declared.io.ErrorKind.TheVariants.{OutOfMemory}
use Rattle.sqlite_disk.specs.declared.Disk as disk
use Rattle.terms.specs.Types.{Text, Id}
use Rattle.report.specs.declared.sink.Sink.{Ghosts as SinkGhosts}
use Rattle.mcs.specs.declared.hold_item.HoldItem.{HoldItem}
use Rattle.mcs.specs.declared.hold_item.HoldItem.TheVariants as item
use Rattle.intake_service.specs.Carrying.{is_sysmod}
use Rattle.smpe_package.specs.Package.{AreIds, IsPackage, id_of}
use Rattle.smpe_package.specs.declared.carried.Package.{Package}
use Rattle.smpe_certificate.specs.Facts.{Input, input_of}
use Rattle.smpe_certificate.specs.Views.{digest_view}
use Rattle.smpe_invocation.specs.declared.asked.CheckAnswer.{CheckAnswer}
use Rattle.smpe_invocation.specs.declared.asked.CheckForm.{CheckForm}
use Rattle.smpe_invocation.specs.declared.asked.CheckForm.TheVariants.{Summary, Report, Json}
use Rattle.smpe_invocation.specs.declared.asked.CheckedSystem.{CheckedSystem}
use Rattle.smpe_invocation.specs.declared.asked.CheckedSystem.TheVariants as checked
use Rattle.smpe_jobs.specs.declared.error.JobError.{JobError}
use Rattle.smpe_jobs.specs.declared.error.JobError.TheVariants.{Memory}
use Rattle.smpe_jobs.specs.declared.messages.Fault.{Fault}
use Rattle.smpe_jobs.specs.declared.messages.Fault.TheVariants.{Job, CannotWrite}
use Rattle.smpe_why.specs.declared.found.LoadedZones.{LoadedZones}
use Rattle.smpe_rehearsal.specs.declared.receiving.Rehearsed.{Rehearsed}
use Rattle.smpe_rehearsal.specs.declared.values.System.{System}
use Rattle.smpe_rehearsal.specs.declared.values.System.TheVariants as system
use Rattle.smpe_rehearsal.specs.Asking.{Asks}
use Rattle.smpe_rehearsal.specs.Prepared.{IsNotCarried, Prepares, zone_of}
use Rattle.smpe_rehearsal.specs.Rehearsed.{Rehearses}
use Rattle.smpe_rehearsal.specs.Told.{TellsText, job_told}
use Rattle.smpe_answer.specs.Asked.{HasCertificate, PackageFacts}
use Rattle.smpe_answer.specs.Answered.{IsSummaryAnswer}
use Rattle.smpe_answer.specs.Documented.{IsDocumentAnswer}
use Rattle.smpe_answer.specs.declared.asked_ids.Answer.{Answer}
use Rattle.smpe_command.specs.declared.host.Host.{Ghosts as HostGhosts}
use Rattle.smpe_command.specs.declared.settled.Settled.{Settled}
use Rattle.smpe_command.specs.Reading.{FailsToRead, ReadsAll}
use Rattle.smpe_command.specs.Shop.{raised_to}
use Rattle.smpe_command.specs.Systems.{ReadsSystem}

-- ---- the files that were read, for a certificate

-- the files of these names with these bytes, one after the other; a name that is missing is empty
abbrev pub inputs_of : List Text → List (List ℕ) → List Input
inputs_of names [] = []
inputs_of [] (bytes ∷ files) = input_of [] bytes ∷ inputs_of [] files
inputs_of (name ∷ names) (bytes ∷ files) = input_of name bytes ∷ inputs_of names files

-- the log of the database of this name, if it has bytes
abbrev pub log_inputs : Text → List ℕ → List Input
log_inputs name [] = []
log_inputs name (byte ∷ bytes) = input_of (name ++ codes "-wal") (byte ∷ bytes) ∷ []

-- the file of the database, and its log
abbrev pub database_inputs : CheckedSystem → System → List Input
database_inputs (checked.Empty srel) read = []
database_inputs (checked.Copied copy) (system.Empty srel) = []
database_inputs (checked.Copied copy) (system.Copied bytes zone) =
    input_of (string_bytes copy.db.name) bytes.db.items ∷ log_inputs (string_bytes copy.db.name) bytes.log.items

-- the ids about which the words ask besides
abbrev pub asked_ids : CheckedSystem → List Id
asked_ids (checked.Empty srel) = []
asked_ids (checked.Copied copy) = copy.ids.items

-- what is known of the package, which was received with this status
abbrev pub facts_of : Settled → ℕ → PackageFacts
facts_of s received = record {
  zone = zone_of s.system;
  source = s.prepared.source;
  ids = s.ids;
  unsure = s.unsure;
  remarks = s.remarks.items;
  status = max s.status received;
  holds_read = s.holds_read;
}

abbrev pub is_hold : HoldItem → Bool
is_hold (item.Hold h) = true
is_hold (item.Release r) = false

-- how the error of a write is reported
abbrev pub TellsWrite : Text → Error → Fault → Type 0
TellsWrite name error (Job Memory) = error_kind error ≡ OutOfMemory
TellsWrite name error (CannotWrite told) = (error_kind error ≢ OutOfMemory) × (told.now ≡ name)
TellsWrite name error _ = ⊥

module _ {H D : Type 0} (host : HostGhosts H D) (h : H) where
  -- a new file of this name has these bytes, or it could not be written
  abbrev pub Writes : Text → List ℕ → Result (Unit {0}) Fault → H → Type 0
  Writes name bytes (Ok done) after = host.writes h name bytes after
  Writes name bytes (Err fault) after = (error : Error) × host.cannot_write h name error after
      × TellsWrite name error fault

module _ {H D : Type 0} (host : HostGhosts H D) (h : H) (zones : LoadedZones) (x : Text) (inputs : List Input) where
  -- Memory ran out for the certificate; or there is no such zone, and nothing is certified; or it is in a new file of
  -- this name, or that could not be written.
  abbrev pub WritesCertificate : Text → Result (Unit {0}) Fault → H → Type 0
  WritesCertificate name r after = ((r ≡ Err (Job Memory)) × (after ≡ h))
      ⊎ ((HasCertificate zones x inputs None × (r ≡ Ok tt) × (after ≡ h))
      ⊎ ((text : Vec ℕ AnyGlobal) × HasCertificate zones x inputs (Some text) × Writes host h name text.items r after))

  -- so if a certificate is asked for
  abbrev pub Certifies : Option Text → Result (Unit {0}) Fault → H → Type 0
  Certifies None r after = (r ≡ Ok tt) × (after ≡ h)
  Certifies (Some name) r after = WritesCertificate name r after

-- the name of the certificate
abbrev pub certificate_name : CheckAnswer → Option Text
certificate_name answer = option_map string_bytes answer.certificate

-- whether nothing is wanted but the report of the jobs
abbrev pub is_report : CheckForm → Bool
is_report Report = true
is_report _ = false

abbrev pub is_plain : CheckForm → Option Text → Bool
is_plain Report None = true
is_plain _ _ = false

-- ---- the answer

module _ {O : Type 0} (sink : SinkGhosts O) (out : O) where
  -- The remarks go out first, but those of a document are in it.
  abbrev pub TellsRemarks : Package → CheckForm → Result ℕ JobError → O → Type 0
  TellsRemarks p Json r out' = (r ≡ Ok p.status) × (out' ≡ out)
  TellsRemarks p _ r out' = TellsText sink out out' p.remarks.items p.status r

  -- An answer of this kind goes out; or memory ran out for it, and nothing does.
  abbrev pub TellsAnswer : (Answer → Type 0) → Result ℕ JobError → O → Type 0
  TellsAnswer Is r out' = ((r ≡ Err Memory) × (out' ≡ out))
      ⊎ ((answer : Answer) × Is answer × TellsText sink out out' answer.text.items answer.status r)

module _ {M O : Type 0} (memory : disk.Ghosts M) (sink : SinkGhosts O) (s : Settled) (ids : List Id) (out : O) where
  -- The package is answered for in this form, given the zones after RECEIVE. The report is that of the jobs.
  abbrev pub TellsForm : CheckForm → Rehearsed → Result ℕ JobError → O → Type 0
  TellsForm Report z r out' = Asks memory sink out s.system s.prepared ids r out'
  TellsForm Summary z r out' = TellsAnswer sink out (IsSummaryAnswer z.zones (facts_of s z.status) ids) r out'
  TellsForm Json z r out' = TellsAnswer sink out (IsDocumentAnswer z.zones (facts_of s z.status) z.zones.zone) r out'

module _ {H D M : Type 0} (host : HostGhosts H D) (memory : disk.Ghosts M) where
  -- The system was read, and the jobs that rehearse the package were made for it.
  pub record IsSettled (h : H) (system : CheckedSystem) (inputs : List Input) (p : Package) (s : Settled) (after : H)
      : Type 0 where
    pub reads : ReadsSystem host h system (Ok s.system) after
    pub prepared : Prepares memory s.system p.items.items p.hold_items.items (Ok s.prepared)
    pub ids : AreIds s.ids (flat_map id_of p.items.items)
    pub unsure : s.unsure ≡ p.unsure
    pub remarks : s.remarks ≡ p.remarks
    pub status : s.status ≡ p.status
    pub holds_read : s.holds_read ≡ count_by is_hold p.hold_items.items
    pub inputs_are : map digest_view s.inputs.items ≡ inputs ++ database_inputs system s.system

  -- So it is, or memory ran out, or the system was not read, or the jobs were not made.
  abbrev pub Settles : H → CheckedSystem → List Input → Package → Result Settled Fault → H → Type 0
  Settles h system inputs p (Ok s) after = IsSettled h system inputs p s after
  Settles h system inputs p (Err fault) after = ((fault ≡ Job Memory) × (after ≡ h))
      ⊎ (((error : JobError) × ReadsSystem host h system (Err error) after × (fault ≡ Job error))
      ⊎ ((read : System) × ReadsSystem host h system (Ok read) after
      × ((fault ≡ Job Memory) ⊎ Prepares memory read p.items.items p.hold_items.items (Err fault))))

module _ {H D M O : Type 0} (host : HostGhosts H D) (memory : disk.Ghosts M) (sink : SinkGhosts O) where
  module _ (h : H) (answer : CheckAnswer) (s : Settled) (ids : List Id) (out : O) where
    -- The certificate is written before the answer goes out. If it is not, nothing does.
    abbrev pub AnswersRehearsed : Rehearsed → Result ℕ Fault → H → O → Type 0
    AnswersRehearsed z r after out' =
        ((fault : Fault) × Certifies host h z.zones s.prepared.source (map digest_view s.inputs.items)
        (certificate_name answer) (Err fault) after × (r ≡ Err fault) × (out' ≡ out))
        ⊎ (Certifies host h z.zones s.prepared.source (map digest_view s.inputs.items) (certificate_name answer) (Ok tt)
        after × (told : Result ℕ JobError) × TellsForm memory sink s ids out answer.form z told out'
        × (r ≡ job_told told))

    -- The package is received in the system, and answered for; or that failed, and nothing else is done. For nothing
    -- but the report, only its jobs run.
    abbrev pub AnswersSettled : Bool → Result ℕ Fault → H → O → Type 0
    AnswersSettled true r after out' = (told : Result ℕ JobError)
        × Asks memory sink out s.system s.prepared ids told out' × (r ≡ job_told told) × (after ≡ h)
    AnswersSettled false r after out' =
        ((error : JobError) × Rehearses memory s.system s.prepared (Err error) × (r ≡ Err (Job error)) × (after ≡ h)
        × (out' ≡ out))
        ⊎ ((z : Rehearsed) × Rehearses memory s.system s.prepared (Ok z) × AnswersRehearsed z r after out')

  module _ (system : CheckedSystem) (answer : CheckAnswer) (h : H) (inputs : List Input) (p : Package) where
    -- The package is settled and answered for.
    abbrev pub AnswersCarried : O → Result ℕ Fault → H → O → Type 0
    AnswersCarried out r after out' =
        ((fault : Fault) × Settles host memory h system inputs p (Err fault) after × (r ≡ Err fault) × (out' ≡ out))
        ⊎ ((s : Settled) × (m : H) × Settles host memory h system inputs p (Ok s) m
        × AnswersSettled m answer s (asked_ids system) out (is_plain answer.form (certificate_name answer)) r after
        out')

    -- A report has nothing to say of a package without SYSMODs.
    abbrev pub AnswersIfAny : Bool → O → Result ℕ Fault → H → O → Type 0
    AnswersIfAny true out r after out' = (r ≡ Ok 12) × (after ≡ h) × (out' ≡ out)
    AnswersIfAny false out r after out' = AnswersCarried out r after out'

    abbrev pub AnswersAfter : Result ℕ JobError → O → Result ℕ Fault → H → O → Type 0
    AnswersAfter (Ok status) out r after out' = (answered : Result ℕ Fault)
        × AnswersIfAny (is_report answer.form && not (list_any is_sysmod p.items.items)) out answered after out'
        × (r ≡ raised_to status answered)
    AnswersAfter (Err error) out r after out' = (r ≡ Err (Job error)) × (after ≡ h) × (out' ≡ out)

    -- The package is answered for, after its remarks.
    abbrev pub AnswersPackage : O → Result ℕ Fault → H → O → Type 0
    AnswersPackage out r after out' = (mid : O) × (status : Result ℕ JobError)
        × TellsRemarks sink out p answer.form status mid × AnswersAfter status mid r after out'

  -- The files are read in their order, and the package that they come to is answered for. Or the first file that cannot
  -- be read is reported, or memory ran out, or they cannot be carried, and nothing else is done.
  abbrev pub ServesPackage : H → O → CheckedSystem → CheckAnswer → List Text → Result ℕ Fault → H → O → Type 0
  ServesPackage h out system answer names r after out' =
      ((fault : Fault) × FailsToRead host h (map (λ name. Some name) names) fault after × (r ≡ Err fault)
      × (out' ≡ out))
      ⊎ ((m : H) × (files : List (List ℕ)) × ReadsAll host h (map (λ name. Some name) names) (Ok files) m
      × (((fault : Fault) × IsNotCarried fault × (r ≡ Err fault) × (after ≡ m) × (out' ≡ out))
      ⊎ ((p : Package) × IsPackage (length files) p
      × AnswersPackage system answer m (inputs_of names files) p out r after out')))
