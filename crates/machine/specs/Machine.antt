-- The machine: what each act makes of the state and prints, and what a list of jobs does.
-- (IBM z/OS SMP/E Commands: SET, RECEIVE, REJECT, APPLY, ACCEPT, RESTORE, LIST and REPORT ERRSYSMODS.)
use Rattle.std.specs.Prelude.{◌≡◌, ◌⊎◌, ℕ, Bool, true, false, IsTrue, List, [], ◌∷◌, ◌++◌, map, Option, None, Some}
use Rattle.std.specs.Prelude.{Result, Ok, Err, if◌then◌else◌}
use Rattle.std.specs.List.{flat_map}
use Rattle.std.specs.Option.{option_map_or, option_and_then}
use Rattle.terms.specs.Types.{ZoneName, Date, Id, Global, Zone, Item, HoldItem, ReceiveOperands, Install, RestoreList}
use Rattle.terms.specs.Types.{Command, Set}
use Rattle.terms.specs.Types.{Receive, Reject, Apply, Accept, Restore, ListZone, Report}
use Rattle.terms.specs.Ptfin.{McsFault, IsPtfin, IsPtfinFault}
use Rattle.terms.specs.HoldFile.{IsHoldFile, IsHoldFileFault}
use Rattle.terms.specs.Commands.{CntlFault, IsCommandFile, IsCommandFileFault}
use Rattle.machine.specs.Outcome.{Line, Refusal, BadPtfin, BadHoldFile, ControlFault, Outcome, Ran, Refused}
use Rattle.machine.specs.Outcome.{Control, header_of}
use Rattle.machine.specs.Outcome.{or_nothing, list_global, list_zone, job_code}
use Rattle.machine.specs.Report.{text}
use Rattle.machine.specs.State.{State, zone_named, current_zone, target_of, with_zone, at_global, misplaced}
use Rattle.machine.specs.State.{ZoneDefinition, ZoneFault, define_zone}
use Rattle.machine.specs.Receiving.{TakesItem, TakesHoldItem}
use Rattle.machine.specs.Rejecting.{RejectsId}
use Rattle.machine.specs.Installing.{InstallsSelected}
use Rattle.machine.specs.Restoring.{RestoresListed}
use Rattle.machine.specs.Errsysmods.{AreErrsysmods}
use Rattle.machine.specs.Runs.{Runs}

-- the files that a job's RECEIVE reads
pub record Files : Type 0 where
  pub ptfin : List ℕ
  pub holds : List ℕ

-- what a file contains; a file that the command does not read counts as empty
abbrev pub HasItems : {X : Type 0} → (List ℕ → List X → Type 0) → Bool → List ℕ → List X → Type 0
HasItems Is true bytes items = Is bytes items
HasItems Is false bytes items = items ≡ []

-- RECEIVE takes in the items of PTFIN, and then those of the hold file. It reads both before anything changes. The
-- first fault of PTFIN, or otherwise of the hold file, refuses it.
pub data Takes (files : Files) (s : State) (what : ReceiveOperands) : State → Outcome → Type 0 where
  TakesAll : (items : List Item) (holds : List HoldItem) (middle g : Global) (lines more : List Line)
      → HasItems IsPtfin what.sysmods files.ptfin items → HasItems IsHoldFile what.holddata files.holds holds
      → Runs (TakesItem what.source) s.global items middle lines → Runs TakesHoldItem middle holds g more
      → Takes files s what (record s { global = g }) (Ran (header_of (Receive what) s.boundary)
      (or_nothing (lines ++ more)))
  TakesNone : (fault : McsFault) → IsTrue what.sysmods → IsPtfinFault files.ptfin fault
      → Takes files s what s (Refused (header_of (Receive what) s.boundary) (BadPtfin fault.number fault.code))
  TakesNoHold : (items : List Item) (fault : McsFault) → HasItems IsPtfin what.sysmods files.ptfin items
      → IsTrue what.holddata → IsHoldFileFault files.holds fault
      → Takes files s what s (Refused (header_of (Receive what) s.boundary) (BadHoldFile fault.number fault.code))

-- REJECT takes the ids one after the other.
pub record Rejects (s : State) (ids : List Id) (t : State) (outcome : Outcome) : Type 0 where
  pub new : Global
  pub lines : List Line
  pub runs : Runs (RejectsId s.zones) s.global ids new lines
  pub state : t ≡ record s { global = new }
  pub prints : outcome ≡ Ran (header_of (Reject ids) s.boundary) lines

-- APPLY and ACCEPT install into the zone of the boundary. ACCEPT also looks at the related target zone. With CHECK they
-- print the same and change nothing.
pub record InstallsThere (date : Date) (s : State) (c : Command) (i : Install) (related : ZoneName → Option Zone)
    (t : State) (outcome : Outcome) : Type 0 where
  pub name : ZoneName
  pub at : s.boundary ≡ Some name
  pub zone : Zone
  pub is_there : zone_named s.zones name ≡ Some zone
  pub new : Zone
  pub lines : List Line
  pub installs : InstallsSelected s.global zone (related name) i.selection i.bypass date new lines
  pub state : t ≡ (if i.check then s else with_zone s name new)
  pub prints : outcome ≡ Ran (header_of c s.boundary) (or_nothing lines)

-- RESTORE takes SYSMODs off the target zone of the boundary, back to the level of its distribution zone.
pub record RestoresThere (s : State) (what : RestoreList) (check : Bool) (t : State) (outcome : Outcome) : Type 0 where
  pub name : ZoneName
  pub at : s.boundary ≡ Some name
  pub zone : Zone
  pub is_there : zone_named s.zones name ≡ Some zone
  pub accepted : Zone
  pub related : option_and_then (zone_named s.zones) zone.related ≡ Some accepted
  pub new : Zone
  pub lines : List Line
  pub restores : RestoresListed s.global zone accepted what new lines
  pub state : t ≡ (if check then s else with_zone s name new)
  pub prints : outcome ≡ Ran (header_of (Restore what check) s.boundary) lines

-- what LIST prints: the global zone, or the zone of the boundary
abbrev pub listed : State → Bool → List Line
listed s text = if at_global s then list_global s.global else option_map_or (list_zone text) (current_zone s) []

-- REPORT looks at the zone of the boundary.
pub record ReportsThere (s : State) (outcome : Outcome) : Type 0 where
  pub zone : Zone
  pub is_there : current_zone s ≡ Some zone
  pub lines : List Line
  pub lines_are : AreErrsysmods s.global zone lines
  pub prints : outcome ≡ Ran (header_of Report s.boundary) lines

-- a command that may run
abbrev pub RunsThere : Date → Files → State → Command → State → Outcome → Type 0
RunsThere date files s (Set name) t outcome =
    (t ≡ record s { boundary = Some name }) × (outcome ≡ Ran (header_of (Set name) s.boundary) [])
RunsThere date files s (Receive what) t outcome = Takes files s what t outcome
RunsThere date files s (Reject ids) t outcome = Rejects s ids t outcome
RunsThere date files s (Apply i) t outcome = InstallsThere date s (Apply i) i (λ name. None) t outcome
RunsThere date files s (Accept i) t outcome = InstallsThere date s (Accept i) i (target_of s.zones) t outcome
RunsThere date files s (Restore what check) t outcome = RestoresThere s what check t outcome
RunsThere date files s (ListZone text) t outcome =
    (t ≡ s) × (outcome ≡ Ran (header_of (ListZone text) s.boundary) (listed s text))
RunsThere date files s Report t outcome = (t ≡ s) × ReportsThere s outcome

-- a command; one that may not run is refused and changes nothing
abbrev pub Performs : Date → Files → State → Command → State → Outcome → Type 0
Performs date files s c t outcome =
    ((why : Refusal) × (misplaced s c ≡ Some why) × (t ≡ s) × (outcome ≡ Refused (header_of c s.boundary) why))
    ⊎ ((misplaced s c ≡ None) × RunsThere date files s c t outcome)

-- A job begins, without a boundary. One of its commands runs, on its date and over its files. Its command file has a
-- fault. Or a zone is defined.
pub data Act : Type 0 where
  Begin : Act
  Perform : Date → Files → Command → Act
  Faulty : ControlFault → Act
  Define : ZoneDefinition → Act

-- the state of the answer, or otherwise the one before
abbrev pub state_after : State → Result State ZoneFault → State
state_after s (Ok new) = new
state_after s (Err why) = s

abbrev pub Steps : State → Act → State → List Outcome → Type 0
Steps s Begin t outcomes = (t ≡ record s { boundary = None }) × (outcomes ≡ [])
Steps s (Perform date files c) t outcomes = (outcome : Outcome) × Performs date files s c t outcome
    × (outcomes ≡ outcome ∷ [])
Steps s (Faulty fault) t outcomes = (t ≡ s) × (outcomes ≡ Control fault ∷ [])
Steps s (Define d) t outcomes = (t ≡ state_after s (define_zone s d)) × (outcomes ≡ [])

-- an act with the text that it prints
abbrev pub Prints : State → Act → State → List ℕ → Type 0
Prints s a t bytes = (outcomes : List Outcome) × Steps s a t outcomes × (bytes ≡ flat_map text outcomes)

-- a job's date, command file and other files, or a zone to define
pub data Job : Type 0 where
  RunFiles : Date → List ℕ → Files → Job
  NewZone : ZoneDefinition → Job

-- The acts of a job are its commands, or the fault of its command file.
abbrev pub HasActs : Job → List Act → Type 0
HasActs (RunFiles date cntl files) acts =
    ((cs : List Command) × IsCommandFile cntl cs × (acts ≡ Begin ∷ map (Perform date files) cs))
    ⊎ ((fault : CntlFault) × IsCommandFileFault cntl fault
    × (acts ≡ Begin ∷ Faulty (record { number = fault.number; code = fault.code }) ∷ []))
HasActs (NewZone d) acts = acts ≡ Define d ∷ []

-- the return code of a job, or how the definition of a zone ended
pub data Answer : Type 0 where
  Code : ℕ → Answer
  Defined : Answer
  NotDefined : ZoneFault → Answer

abbrev pub defined : Result State ZoneFault → Answer
defined (Ok new) = Defined
defined (Err why) = NotDefined why

abbrev pub HasAnswer : State → Job → List Outcome → Answer → Type 0
HasAnswer s (RunFiles date cntl files) outcomes answer = answer ≡ Code (job_code outcomes)
HasAnswer s (NewZone d) outcomes answer = answer ≡ defined (define_zone s d)

-- A job leads from s to t, prints the bytes, and has the answer.
pub record RunsJob (s : State) (job : Job) (t : State) (bytes : List ℕ) (answer : Answer) : Type 0 where
  pub acts : List Act
  pub has_acts : HasActs job acts
  pub outcomes : List Outcome
  pub runs : Runs Steps s acts t outcomes
  pub bytes_are : bytes ≡ flat_map text outcomes
  pub answers : HasAnswer s job outcomes answer

-- The jobs do so one after the other.
abbrev pub RunsJobs : State → List Job → State → List ℕ → List Answer → Type 0
RunsJobs s [] t bytes answers = (t ≡ s) × (bytes ≡ []) × (answers ≡ [])
RunsJobs s (job ∷ more) t bytes answers =
    (m : State) × (front back : List ℕ) × (answer : Answer) × (later : List Answer)
    × RunsJob s job m front answer × RunsJobs m more t back later × (bytes ≡ front ++ back) × (answers ≡ answer ∷ later)

-- The acts are those of the first jobs: as many as a call has begun.
abbrev pub AreFirstActs : List Job → List Act → Type 0
AreFirstActs [] acts = acts ≡ []
AreFirstActs (job ∷ more) acts =
    (acts ≡ []) ⊎ ((front back : List Act) × HasActs job front × AreFirstActs more back × (acts ≡ front ++ back))
