-- What the installer knows: SYSMODs, holds, the global zone, zones, and what the input files say.
-- Texts, ids and names are lists of bytes. Lists of ids rise by their bytes.
use Rattle.std.specs.Prelude.{ℕ, Bool, true, false, List, Option}
use Rattle.terms.specs.declared.kinds.Kind.{Kind}
use Rattle.terms.specs.declared.kinds.Kind.TheVariants.{Function, Ptf, Apar, Usermod}
use Rattle.terms.specs.declared.kinds.HoldKind.{HoldKind}
use Rattle.terms.specs.declared.kinds.HoldKind.TheVariants.{Error, System, User}
use Rattle.terms.specs.declared.kinds.ElemType.{ElemType}
use Rattle.terms.specs.declared.kinds.ElemType.TheVariants.{Mac, Src, Clist, Data, Exec, Parm, Proc}
use Rattle.terms.specs.declared.kinds.ZoneKind.{ZoneKind}
use Rattle.terms.specs.declared.kinds.ZoneKind.TheVariants.{Target, Distribution}

-- a text, as bytes
abbrev pub Text : Type 0
Text = List ℕ

-- a SYSMOD's id, seven bytes
abbrev pub Id : Type 0
Id = List ℕ

-- what a text is: the level of a zone, the reason and the class of a hold, a source, a name of an element, a library
-- or a zone, and a date
abbrev pub Srel : Type 0
Srel = Text

abbrev pub Reason : Type 0
Reason = Text

abbrev pub Class : Type 0
Class = Text

abbrev pub Source : Type 0
Source = Text

abbrev pub Name : Type 0
Name = Text

abbrev pub Library : Type 0
Library = Text

abbrev pub ZoneName : Type 0
ZoneName = Text

abbrev pub Date : Type 0
Date = Text

-- the 80-byte records of an element or of an update
abbrev pub Lines : Type 0
Lines = List (List ℕ)

-- the numbers that tell kinds and types apart and order them
abbrev pub kind_number : Kind → ℕ
kind_number Function = 0
kind_number Ptf = 1
kind_number Apar = 2
kind_number Usermod = 3

abbrev pub hold_number : HoldKind → ℕ
hold_number Error = 0
hold_number System = 1
hold_number User = 2

abbrev pub type_number : ElemType → ℕ
type_number Mac = 0
type_number Src = 1
type_number Clist = 2
type_number Data = 3
type_number Exec = 4
type_number Parm = 5
type_number Proc = 6

abbrev pub zone_number : ZoneKind → ℕ
zone_number Target = 0
zone_number Distribution = 1

-- the kinds that rules mention by name
abbrev pub is_function_kind : Kind → Bool
is_function_kind Function = true
is_function_kind Ptf = false
is_function_kind Apar = false
is_function_kind Usermod = false

abbrev pub is_error : HoldKind → Bool
is_error Error = true
is_error System = false
is_error User = false

abbrev pub is_target : ZoneKind → Bool
is_target Target = true
is_target Distribution = false

abbrev pub is_distribution : ZoneKind → Bool
is_distribution Target = false
is_distribution Distribution = true

-- ++IF: if this function is installed, these SYSMODs are required too
pub record IfReq : Type 0 where
  pub function : Id
  pub req : List Id

-- ++VER with its ++IFs: FMID, PRE, REQ, SUP, NPRE and DELETE (`delete` is `del`)
pub record Ver : Type 0 where
  pub srel : Srel
  pub fmid : Option Id
  pub pre : List Id
  pub req : List Id
  pub sup : List Id
  pub npre : List Id
  pub del : List Id
  pub ifs : List IfReq

-- ++HOLD. Its key is its id, kind and reason. It is internal if it came inside a SYSMOD.
pub record Hold : Type 0 where
  pub id : Id
  pub kind : HoldKind
  pub reason : Reason
  pub fmid : Id
  pub class : Option Class
  pub date : Option Date
  pub comment : Option Text
  pub internal : Bool

-- what an element statement does: ++MAC (DISTLIB, SYSLIB and the records), or ++MACUPD (all its records)
pub data Action : Type 0 where
  Replaces : Library → Library → Lines → Action
  Updates : Lines → Action

-- an element statement of a SYSMOD (`type` is `elem_type`)
pub record Change : Type 0 where
  pub elem_type : ElemType
  pub name : Name
  pub action : Action

-- A SYSMOD. While it is read its internal holds are here; in the global zone they are among the holds.
pub record Sysmod : Type 0 where
  pub id : Id
  pub kind : Kind
  pub sources : List Source
  pub vers : List Ver
  pub changes : List Change
  pub holds : List Hold

-- the global zone: SYSMODs rising by id, holds rising by key
pub record Global : Type 0 where
  pub sysmods : List Sysmod
  pub holds : List Hold

abbrev pub a_global : List Sysmod → List Hold → Global
a_global sysmods holds = record { sysmods = sysmods; holds = holds }

-- A zone has applied a SYSMOD: the date of APPLY or ACCEPT, and the number of the ++VER that counted, among those of
-- the SYSMOD for the zone's SREL.
pub record Applied : Type 0 where
  pub date : Date
  pub number : ℕ

abbrev pub an_applied : Date → ℕ → Applied
an_applied date number = record { date = date; number = number }

-- a zone's SYSMOD entry: whether it is applied, SUPBY, DELBY, and the requisites that were bypassed
pub record Entry : Type 0 where
  pub id : Id
  pub applied : Option Applied
  pub supby : List Id
  pub delby : Option Id
  pub waived : List Id

-- a zone's element entry: FMID, RMID, UMIDs, DISTLIB, SYSLIB and its records
pub record Element : Type 0 where
  pub elem_type : ElemType
  pub name : Name
  pub fmid : Id
  pub rmid : Id
  pub umids : List Id
  pub distlib : Library
  pub syslib : Library
  pub text : Lines

-- a target or distribution zone: entries rising by id, elements by type and name
pub record Zone : Type 0 where
  pub kind : ZoneKind
  pub srel : Srel
  pub related : Option ZoneName
  pub entries : List Entry
  pub elements : List Element

abbrev pub a_zone : ZoneKind → Srel → Option ZoneName → List Entry → List Element → Zone
a_zone kind srel related entries elements =
    record { kind = kind; srel = srel; related = related; entries = entries; elements = elements }

-- a zone and its name
pub record NamedZone : Type 0 where
  pub name : ZoneName
  pub zone : Zone

-- ++ASSIGN: the ids in the order of the statement
pub record Assign : Type 0 where
  pub source : Source
  pub to : List Id

-- ++RELEASE: the key of a hold, and an FMID that is not compared
pub record Release : Type 0 where
  pub id : Id
  pub kind : HoldKind
  pub reason : Reason
  pub fmid : Id

-- an item of PTFIN (`Sysmod` and `Assign` are the records)
pub data Item : Type 0 where
  ASysmod : Sysmod → Item
  AnAssign : Assign → Item

-- an item of a hold file
pub data HoldItem : Type 0 where
  AHold : Hold → HoldItem
  ARelease : Release → HoldItem

-- the reasons that HOLDERROR, HOLDSYSTEM or HOLDUSER cover: none, all, or those in the list
pub data Reasons : Type 0 where
  NoReason : Reasons
  AnyReason : Reasons
  TheseReasons : List Reason → Reasons

-- BYPASS, which is empty if the command has none (`ID` is `same_id`)
pub record Bypass : Type 0 where
  pub pre : Bool
  pub req : Bool
  pub ifreq : Bool
  pub same_id : Bool
  pub applycheck : Bool
  pub holderror : Reasons
  pub holdsystem : Reasons
  pub holduser : Reasons
  pub holdclass : List Class

-- what APPLY and ACCEPT choose: an absent operand is an empty list
pub record Selection : Type 0 where
  pub functions : Bool
  pub ptfs : Bool
  pub apars : Bool
  pub usermods : Bool
  pub select : List Id
  pub exclude : List Id
  pub sourceid : List Source
  pub forfmid : List Id
  pub group : List Id
  pub groupextend : Bool

-- the operands of APPLY and ACCEPT
pub record Install : Type 0 where
  pub selection : Selection
  pub bypass : Bypass
  pub check : Bool

-- RESTORE names its SYSMODs by SELECT or by GROUP
pub data RestoreList : Type 0 where
  RestoreSelect : List Id → RestoreList
  RestoreGroup : List Id → RestoreList

-- what RECEIVE reads (PTFIN, the hold file), and the source that it adds
pub record ReceiveOperands : Type 0 where
  pub sysmods : Bool
  pub holddata : Bool
  pub source : Option Source

-- SET BDY, RECEIVE, REJECT, APPLY, ACCEPT, RESTORE (with CHECK), LIST (with TEXT; `List` is the type) and REPORT
pub data Command : Type 0 where
  Set : ZoneName → Command
  Receive : ReceiveOperands → Command
  Reject : List Id → Command
  Apply : Install → Command
  Accept : Install → Command
  Restore : RestoreList → Bool → Command
  ListZone : Bool → Command
  Report : Command
