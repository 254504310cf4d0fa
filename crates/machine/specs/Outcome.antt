-- What a command prints, before it becomes text.
use Rattle.std.specs.Prelude.{ℕ, Bool, false, List, [], ◌∷◌, Option, Some, max, map, ◌++◌, if◌then◌else◌}
use Rattle.std.specs.List.{flat_map}
use Rattle.terms.specs.declared.kinds.Kind.{Kind}
use Rattle.terms.specs.declared.kinds.HoldKind.{HoldKind}
use Rattle.terms.specs.declared.kinds.ElemType.{ElemType}
use Rattle.terms.specs.declared.kinds.ZoneKind.{ZoneKind}
use Rattle.terms.specs.Types.{Reason, Source, Name, Library, ZoneName, Id, Global, Entry, Element, Zone, Command, Set}
use Rattle.terms.specs.Types.{Receive, Reject, Apply, Accept}
use Rattle.terms.specs.Types.{Restore, ListZone, Report}
use Rattle.terms.specs.declared.codes.CommandWord.{CommandWord}
use Rattle.terms.specs.declared.codes.CommandWord.TheVariants as word
use Rattle.terms.specs.declared.codes.IdRefusal.{IdRefusal}
use Rattle.terms.specs.declared.codes.IdRefusal.TheVariants.{MakesLoop, WrongRole, NoRoom, NoHold, Internal}
use Rattle.terms.specs.declared.codes.IdRefusal.TheVariants.{AppliedSomewhere, UnknownSysmod}
use Rattle.terms.specs.declared.codes.StatementCode.{StatementCode}
use Rattle.terms.specs.declared.codes.CommandCode.{CommandCode}
use Rattle.terms.specs.declared.codes.Test.{Test}
use Rattle.terms.specs.declared.codes.NeedKind.{NeedKind}

-- the command's word, the boundary if there is one (for SET the zone that it names), and whether CHECK was given
pub record Header : Type 0 where
  pub word : CommandWord
  pub boundary : Option ZoneName
  pub check : Bool

-- the header of a command under a boundary
abbrev pub header_of : Command → Option ZoneName → Header
header_of (Set zone) b = record { word = word.Set; boundary = Some zone; check = false }
header_of (Receive what) b = record { word = word.Receive; boundary = b; check = false }
header_of (Reject ids) b = record { word = word.Reject; boundary = b; check = false }
header_of (Apply i) b = record { word = word.Apply; boundary = b; check = i.check }
header_of (Accept i) b = record { word = word.Accept; boundary = b; check = i.check }
header_of (Restore ids check) b = record { word = word.Restore; boundary = b; check = check }
header_of (ListZone text) b = record { word = word.List; boundary = b; check = false }
header_of Report b = record { word = word.Report; boundary = b; check = false }

-- Why a command is refused: no SET precedes it, SET names an undefined zone, the boundary suits other commands, or a
-- record of PTFIN or of the hold file has a fault.
pub data Refusal : Type 0 where
  NoBoundary : Refusal
  NoZone : Refusal
  WrongKind : Refusal
  BadPtfin : ℕ → StatementCode → Refusal
  BadHoldFile : ℕ → StatementCode → Refusal

-- what follows the id in a status line: a SYSMOD's type, a hold's kind, or nothing known
pub data Place : Type 0 where
  OfKind : Kind → Place
  OfHold : HoldKind → Place
  NotReceived : Place

-- a need that no kept candidate serves
pub record OpenNeed : Type 0 where
  pub kind : NeedKind
  pub id : Id

-- why an id failed: the tests, the needs that no kept candidate serves, and the causers
pub record Failure : Type 0 where
  pub tests : List Test
  pub needs : List OpenNeed
  pub causers : List Id

pub data Status : Type 0 where
  Received : Status
  Already : Status
  RefusedId : IdRefusal → Status
  Assigned : Source → Status
  Unknown : Status
  Held : Reason → Status
  Replaced : Reason → Status
  Released : Reason → Status
  Rejected : Status
  Applied : Status
  Accepted : Status
  Superseded : Status
  Failed : Failure → Status
  Deleted : Status
  Missing : Status
  NoVer : Status
  Restored : Status
  NotApplied : Status

-- what LIST prints of an element, without its records
pub record ElementRow : Type 0 where
  pub elem_type : ElemType
  pub name : Name
  pub fmid : Id
  pub rmid : Id
  pub umids : List Id
  pub distlib : Library
  pub syslib : Library

-- An entry is printed with its zone's kind, an ERRSYSMOD with its reason and its resolvers.
pub data Line : Type 0 where
  StatusLine : Id → Place → Status → Line
  NothingLine : Line
  SysmodLine : Id → Kind → List Source → Line
  HoldLine : Id → HoldKind → Reason → Bool → Line
  EntryLine : ZoneKind → Entry → Line
  ElementLine : ElementRow → Line
  TextLine : List ℕ → Line
  ErrsysmodLine : Id → Reason → List Id → Line

-- the fault of a command file, with the number of the record where the command begins
pub record ControlFault : Type 0 where
  pub number : ℕ
  pub code : CommandCode

-- a command that ran, one that was refused, or the fault of a command file
pub data Outcome : Type 0 where
  Ran : Header → List Line → Outcome
  Refused : Header → Refusal → Outcome
  Control : ControlFault → Outcome

-- RECEIVE, APPLY and ACCEPT print NOTHING instead of no line
abbrev pub or_nothing : List Line → List Line
or_nothing [] = NothingLine ∷ []
or_nothing (l ∷ ls) = l ∷ ls

-- LIST of the global zone: SYSMODs and then holds, each in the zone's order
abbrev pub list_global : Global → List Line
list_global g =
    map (λ s. SysmodLine s.id s.kind s.sources) g.sysmods
    ++ map (λ h. HoldLine h.id h.kind h.reason h.internal) g.holds

abbrev pub row_of : Element → ElementRow
row_of e = record {
  elem_type = e.elem_type;
  name = e.name;
  fmid = e.fmid;
  rmid = e.rmid;
  umids = e.umids;
  distlib = e.distlib;
  syslib = e.syslib;
}

-- an element's line, and with TEXT its records
abbrev pub element_lines : Bool → Element → List Line
element_lines text e = ElementLine (row_of e) ∷ (if text then map (λ r. TextLine r) e.text else [])

-- LIST and LIST TEXT of another zone
abbrev pub list_zone : Bool → Zone → List Line
list_zone text z = map (λ e. EntryLine z.kind e) z.entries ++ flat_map (λ e. element_lines text e) z.elements

abbrev pub refusal_code : IdRefusal → ℕ
refusal_code MakesLoop = 8
refusal_code WrongRole = 8
refusal_code NoRoom = 8
refusal_code NoHold = 4
refusal_code Internal = 4
refusal_code AppliedSomewhere = 8
refusal_code UnknownSysmod = 8

abbrev pub status_code : Status → ℕ
status_code Received = 0
status_code Already = 4
status_code (RefusedId why) = refusal_code why
status_code (Assigned source) = 0
status_code Unknown = 4
status_code (Held reason) = 0
status_code (Replaced reason) = 0
status_code (Released reason) = 0
status_code Rejected = 0
status_code Applied = 0
status_code Accepted = 0
status_code Superseded = 0
status_code (Failed why) = 8
status_code Deleted = 8
status_code Missing = 8
status_code NoVer = 8
status_code Restored = 0
status_code NotApplied = 8

abbrev pub line_code : Line → ℕ
line_code (StatusLine id place status) = status_code status
line_code NothingLine = 4
line_code (SysmodLine id kind sources) = 0
line_code (HoldLine id kind reason internal) = 0
line_code (EntryLine kind entry) = 0
line_code (ElementLine row) = 0
line_code (TextLine r) = 0
line_code (ErrsysmodLine id reason resolvers) = 4

-- the highest code of any line, or 0 without lines
abbrev pub lines_code : List Line → ℕ
lines_code [] = 0
lines_code (l ∷ ls) = max (line_code l) (lines_code ls)

-- the return code of an outcome
abbrev pub outcome_code : Outcome → ℕ
outcome_code (Ran h lines) = lines_code lines
outcome_code (Refused h why) = 12
outcome_code (Control fault) = 12

-- the return code of a job: the greatest of its outcomes'
abbrev pub job_code : List Outcome → ℕ
job_code [] = 0
job_code (o ∷ os) = max (outcome_code o) (job_code os)
