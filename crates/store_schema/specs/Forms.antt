-- The forms of what is stored: of a SYSMOD's fields as its statements have them, and of a zone's entries.
use Rattle.std.specs.Prelude.{◌≡◌, ◌≢◌, ◌≤◌, ◌<◌, ◌^◌, Bool, false, List, [], ◌∷◌, ◌++◌, length, reverse, All, AllPairs}
use Rattle.std.specs.Prelude.{Contains, Some, IfSome, IsSome, IsTrue, IsFalse, ◌&&◌, ◌||◌, ◌==◌, nat_lt, nat_le}
use Rattle.terms.specs.declared.kinds.Kind.{Kind}
use Rattle.terms.specs.declared.kinds.Kind.TheVariants.{Function}
use Rattle.terms.specs.declared.kinds.ElemType.{ElemType}
use Rattle.terms.specs.declared.kinds.ElemType.TheVariants.{Mac, Src}
use Rattle.terms.specs.Types.{Text, Id, Lines, type_number, Ver, IfReq, Hold, Action, Replaces, Updates, Change, Sysmod}
use Rattle.terms.specs.Types.{Applied, Entry, Element, Zone}
use Rattle.terms.specs.Lookups.{is_before, IsRising}
use Rattle.terms.specs.Forms.{IsId, IsClass, IsReason, IsSource, IsSrel, IsName, IsDate, IsDottedDate}
use Rattle.terms.specs.Forms.{BeginsDark}
use Rattle.terms.specs.Statement.{behind_list}
use Rattle.terms.specs.Texts.{IsNumbered, IsUpdate}
pub use Rattle.terms.specs.Texts.{TakesUpdates}

-- ids of this form, rising
pub record AreSorted (form : Text → Type 0) (ids : List Text) : Type 0 where
  pub each : All form ids
  pub rising : IsRising ids

-- rising ids that do not include the SYSMOD's own
pub record AreOthers (x : Id) (ids : List Id) : Type 0 where
  pub listed : AreSorted IsId ids
  pub others : ¬ Contains ids x

-- 80-byte records
abbrev pub AreRecords : Lines → Type 0
AreRecords lines = All (λ line. (length line ≡ 80) × All (λ b. b < 256) line) lines

-- The records of ++MAC and ++SRC are numbered; those of data elements are free.
abbrev pub IsTextOf : ElemType → Lines → Type 0
IsTextOf Mac text = AreRecords text × IsNumbered text
IsTextOf Src text = AreRecords text × IsNumbered text
IsTextOf _ text = AreRecords text

-- ++IF: at least one requisite, none of them the SYSMOD itself
pub record HasIfForms (x : Id) (i : IfReq) : Type 0 where
  pub function : IsId i.function
  pub req : AreOthers x i.req
  pub some : i.req ≢ []

-- Only a function may have no FMID, and only a function has NPRE and DELETE.
abbrev pub VerSuitsKind : Kind → Ver → Type 0
VerSuitsKind Function v = Unit {0}
VerSuitsKind _ v = IsSome v.fmid × (v.npre ≡ []) × (v.del ≡ [])

-- ++VER
pub record HasVerForms (kind : Kind) (x : Id) (v : Ver) : Type 0 where
  pub srel : IsSrel v.srel
  pub fmid : IfSome v.fmid (λ f. IsId f × (f ≢ x))
  pub pre : AreOthers x v.pre
  pub req : AreOthers x v.req
  pub sup : AreOthers x v.sup
  pub npre : AreOthers x v.npre
  pub del : AreOthers x v.del
  pub ifs : All (HasIfForms x) v.ifs
  pub suits : VerSuitsKind kind v

-- a replacement has at least one record; no function has an update
abbrev pub HasActionForms : Kind → ElemType → Text → Action → Type 0
HasActionForms kind type name (Replaces distlib syslib text) = IsName distlib × IsName syslib × IsTextOf type text
    × (text ≢ [])
HasActionForms kind type name (Updates lines) =
    (kind ≢ Function) × TakesUpdates type × AreRecords lines × IsUpdate name lines

-- an element statement
pub record HasChangeForms (kind : Kind) (c : Change) : Type 0 where
  pub name : IsName c.name
  pub action : HasActionForms kind c.elem_type c.name c.action

-- an element comes before another by type, and then by name
abbrev pub is_change_before : Change → Change → Bool
is_change_before a b =
    nat_lt (type_number a.elem_type) (type_number b.elem_type)
    || ((type_number a.elem_type == type_number b.elem_type) && is_before a.name b.name)

-- Of two ++VERs the later one is not for an earlier SREL. If they are for one SREL, as in no function, they are for two
-- FMIDs.
pub record AreVersApart (kind : Kind) (v w : Ver) : Type 0 where
  pub srels : IsFalse (is_before w.srel v.srel)
  pub service : v.srel ≡ w.srel → kind ≢ Function
  pub fmids : v.srel ≡ w.srel → v.fmid ≢ w.fmid

-- A SYSMOD has one to eight ++VERs; its element statements rise by type and name.
pub record HasSysmodForms (s : Sysmod) : Type 0 where
  pub id : IsId s.id
  pub sources : AreSorted IsSource s.sources
  pub some : s.vers ≢ []
  pub vers : All (HasVerForms s.kind s.id) s.vers
  pub apart : AllPairs (AreVersApart s.kind) s.vers
  pub most : length s.vers ≤ 8
  pub changes : All (HasChangeForms s.kind) s.changes
  pub elements : AllPairs (λ a b. IsTrue (is_change_before a b)) s.changes

-- Each parenthesis in it has its partner, and no pair is inside another: in parentheses of its own, it ends where the
-- text does.
abbrev pub IsPaired : Text → Type 0
IsPaired text = behind_list false (text ++ 41 ∷ []) ≡ Some []

-- 1 to 200 characters, with no blank at an end
pub record IsComment (text : Text) : Type 0 where
  pub least : 1 ≤ length text
  pub most : length text ≤ 200
  pub characters : All (λ b. IsTrue (nat_le 32 b && nat_le b 126)) text
  pub front : BeginsDark text
  pub back : BeginsDark (reverse text)
  pub paired : IsPaired text

-- ++HOLD
pub record HasHoldForms (h : Hold) : Type 0 where
  pub id : IsId h.id
  pub reason : IsReason h.kind h.reason
  pub fmid : IsId h.fmid
  pub class : IfSome h.class IsClass
  pub date : IfSome h.date IsDate
  pub comment : IfSome h.comment IsComment

-- The number counts from 1. It need not be that of a ++VER, since the SYSMOD need not be received.
pub record HasAppliedForms (a : Applied) : Type 0 where
  pub date : IsDottedDate a.date
  pub least : 1 ≤ a.number
  pub most : a.number < 2 ^ 63

-- a SYSMOD entry; only one that is applied has waived requisites
pub record HasEntryForms (e : Entry) : Type 0 where
  pub id : IsId e.id
  pub applied : IfSome e.applied HasAppliedForms
  pub supby : AreSorted IsId e.supby
  pub delby : IfSome e.delby IsId
  pub waived : AreSorted IsId e.waived
  pub waived_if_applied : e.waived ≢ [] → IsSome e.applied

-- an element entry, whose text may have no records
pub record HasElementForms (e : Element) : Type 0 where
  pub name : IsName e.name
  pub fmid : IsId e.fmid
  pub rmid : IsId e.rmid
  pub umids : AreSorted IsId e.umids
  pub distlib : IsName e.distlib
  pub syslib : IsName e.syslib
  pub text : IsTextOf e.elem_type e.text

-- a zone's SREL and entries; the names of related zones belong to the inventory
pub record HasZoneForms (z : Zone) : Type 0 where
  pub srel : IsSrel z.srel
  pub entries : All HasEntryForms z.entries
  pub elements : All HasElementForms z.elements
