-- Of which SYSMODs that it supersedes a SYSMOD lacks nothing.
use Rattle.std.specs.Prelude.{◌≡◌, ◌++◌, ◌⊎◌, List, Some, All, Contains, IsTrue}
use Rattle.std.specs.Ordering.{nat_cmp}
use Rattle.std.specs.Cmp.Lexicographic.{slice_cmp}
use Rattle.std.specs.BTreeMap.{BTreeMap, get}
use Rattle.terms.specs.declared.kinds.ElemType.{ElemType}
use Rattle.terms.specs.Types.{Id, Name, Ver, Global}
use Rattle.terms.specs.Choice.{Choice, sup_of}
use Rattle.terms.specs.Lookups.{has_change, is_in}
use Rattle.terms.specs.Stream.{IsInStream, HasRequisitesOf}
use Rattle.sysmods.specs.Choices.{choice}
use Rattle.stream.specs.declared.keeping.Suspects.{Suspects}

-- x has the requisites of y, and changes each element that y changes
pub record HasAllOf (g : Global) (c : Choice) (x y : Id) : Type 0 where
  pub requisites : HasRequisitesOf c x y
  pub elements : (type : ElemType) (name : Name) → IsTrue (has_change g y type name)
      → IsTrue (has_change g x type name)

-- x lacks nothing of y, if y is in the stream
abbrev pub Keeps : Global → Choice → Id → Id → Type 0
Keeps g c x y = IsInStream c y → HasAllOf g c x y

-- It has the FMID of the other ++VER, names each PRE of it in PRE or SUP, and each SUP of it in SUP.
pub record VerHas (v w : Ver) : Type 0 where
  pub fmid : v.fmid ≡ w.fmid
  pub pre : All (λ z. IsTrue (is_in (v.pre ++ v.sup) z)) w.pre
  pub sup : All (λ z. IsTrue (is_in v.sup z)) w.sup

-- These are some of the SYSMODs that x names in SUP. It lacks nothing of the others.
pub record AreSuspects (g : Global) (c : Choice) (x : Id) (ys : List Id) : Type 0 where
  pub among : (y : Id) → Contains ys y → Contains (sup_of c x) y
  pub others : (y : Id) → Contains (sup_of c x) y → Contains ys y ⊎ Keeps g c x y

-- x lacks nothing of these
abbrev pub AreKept : Global → Choice → Id → List Id → Type 0
AreKept g c x ys = (y : Id) → Contains ys y → Keeps g c x y

-- x supersedes these, and lacks nothing of them
abbrev pub AreKeptOf : Global → Choice → Id → List Id → Type 0
AreKeptOf g c x ys = (y : Id) → Contains ys y → Contains (sup_of c x) y × Keeps g c x y

-- each list is of suspects of the SYSMOD that it stands for
abbrev pub AreKnownIn : Global → Choice → BTreeMap Id (List Id) → Type 0
AreKnownIn g c lists = (x : Id) (ys : List Id) → get (slice_cmp nat_cmp) lists x ≡ Some ys → AreSuspects g c x ys

abbrev pub AreKnown : Suspects → Type 0
AreKnown s = AreKnownIn s.vers.now.global.now (choice s.vers.now) s.lists
