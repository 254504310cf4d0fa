-- The stream of service: what is received with a ++VER that counts. What makes it clean, which zones are of it, and
-- which fixes a zone has.
use Rattle.std.specs.Prelude.{◌≡◌, ◌≢◌, ◌≤◌, ◌⊎◌, ◌↔◌, [], ◌∷◌, ◌++◌, Some, IsSome, IsTrue, IsFalse, length, slice_get}
use Rattle.std.specs.Prelude.{Contains}
use Rattle.terms.specs.declared.kinds.ElemType.{ElemType}
use Rattle.terms.specs.Types.{Srel, Name, Id, Global, Element, Zone, Bypass}
use Rattle.terms.specs.Lookups.{has_change, element_of, is_applied, is_supplied, supby_of, waived_of}
use Rattle.terms.specs.Choice.{Choice, vers_of, fmid_of, pre_of, sup_of}
use Rattle.terms.specs.Over.{IsOver, owner}
use Rattle.terms.specs.Tests.{ShareElement}
use Rattle.terms.specs.Closed.{IsClosedZone}

-- a SYSMOD of the stream
abbrev pub IsInStream : Choice → Id → Type 0
IsInStream c x = IsSome (c x)

-- ---- a clean stream

-- Of two SYSMODs that have one owner and change one element, one is over the other.
abbrev pub IsOrdered : Global → Choice → Type 0
IsOrdered g c =
    (x y : Id) → IsInStream c x → IsInStream c y → x ≢ y → owner g c x ≡ owner g c y → ShareElement g x y
    → IsOver c x y ⊎ IsOver c y x

-- x has the FMID of y. Each PRE of y is a PRE or a SUP of x, and each SUP of y is a SUP of x.
pub record HasRequisitesOf (c : Choice) (x y : Id) : Type 0 where
  pub fmid : fmid_of c x ≡ fmid_of c y
  pub pre : (z : Id) → Contains (pre_of c y) z → Contains (pre_of c x ++ sup_of c x) z
  pub sup : (z : Id) → Contains (sup_of c y) z → Contains (sup_of c x) z

-- What names a SYSMOD of the stream in SUP has its requisites.
abbrev pub KeepsRequisites : Choice → Type 0
KeepsRequisites c = (x y : Id) → IsInStream c y → Contains (sup_of c x) y → HasRequisitesOf c x y

-- What names a SYSMOD of the stream in SUP changes every element that this SYSMOD changes.
abbrev pub KeepsElements : Global → Choice → Type 0
KeepsElements g c =
    (x y : Id) → IsInStream c y → Contains (sup_of c x) y → (type : ElemType) (name : Name)
    → IsTrue (has_change g y type name) → IsTrue (has_change g x type name)

-- a clean stream
pub record IsClean (g : Global) (c : Choice) : Type 0 where
  pub ordered : IsOrdered g c
  pub requisites : KeepsRequisites c
  pub elements : KeepsElements g c

-- the ++VER of each SYSMOD for the SREL, or the first of several
abbrev pub ver_for : Global → Srel → Choice
ver_for g srel x = slice_get (vers_of g srel x) 0

-- The SYSMODs that are received for the SREL are a clean stream, and none has two ++VERs for it.
pub record IsCleanFor (g : Global) (srel : Srel) : Type 0 where
  pub single : (x : Id) → length (vers_of g srel x) ≤ 1
  pub clean : IsClean g (ver_for g srel)

-- ---- zones

-- The zone is of the stream: it is closed, and nothing is waived in it. The SUPBY of an id has the applied SYSMODs that
-- name it in SUP, and no others.
pub record IsOfStream (g : Global) (c : Choice) (zone : Zone) : Type 0 where
  pub closed : IsClosedZone g c zone
  pub unwaived : (x : Id) → waived_of zone x ≡ []
  pub supby : (x b : Id) → Contains (supby_of zone x) b ↔ (IsTrue (is_applied zone b) × Contains (sup_of c b) x)

-- y is in the level of the element: its RMID or one of its UMIDs is y or is over y.
abbrev pub IsInLevel : Choice → Element → Id → Type 0
IsInLevel c e y = (r : Id) × Contains (e.rmid ∷ e.umids) r × ((r ≡ y) ⊎ IsOver c r y)

-- Each SYSMOD of the stream that the zone supplies is in the level of every element that it changes.
abbrev pub HasAllFixes : Global → Choice → Zone → Type 0
HasAllFixes g c zone =
    (y : Id) → IsInStream c y → IsTrue (is_supplied zone y) → (type : ElemType) (name : Name)
    → IsTrue (has_change g y type name)
    → (e : Element) × (element_of zone type name ≡ Some e) × IsInLevel c e y

-- Each applied SYSMOD has the owner of every element that it changes.
abbrev pub HasOwners : Global → Choice → Zone → Type 0
HasOwners g c zone =
    (y : Id) → IsTrue (is_applied zone y) → (type : ElemType) (name : Name) → IsTrue (has_change g y type name)
    → (e : Element) → element_of zone type name ≡ Some e → owner g c y ≡ e.fmid

-- ---- commands

-- BYPASS covers no requisite. It may cover holds, levels (ID) and what is not in the target zone (APPLYCHECK).
pub record ChecksRequisites (b : Bypass) : Type 0 where
  pub pre : IsFalse b.pre
  pub req : IsFalse b.req
  pub ifreq : IsFalse b.ifreq
