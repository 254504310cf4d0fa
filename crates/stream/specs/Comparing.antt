-- The SYSMODs that change an element, one after the other, each compared with the one before it.
use Rattle.std.specs.Prelude.{◌≡◌, ◌≢◌, ◌<◌, ◌⊎◌, List, [], ◌∷◌, ◌++◌, Option, None, Some, map, length, All, Contains}
use Rattle.std.specs.Prelude.{IsTrue}
use Rattle.std.specs.declared.cmp.Ordering.{Ordering}
use Rattle.std.specs.Ordering.{nat_cmp, ordering_then}
use Rattle.std.specs.Cmp.Lexicographic.{slice_cmp}
use Rattle.std.specs.BTreeMap.{BTreeMap, get}
use Rattle.terms.specs.Types.{Id, Change, Global}
use Rattle.terms.specs.Choice.{Choice}
use Rattle.terms.specs.Lookups.{change_key, changes_of, has_change}
use Rattle.terms.specs.Over.{IsOver, owner}
use Rattle.terms.specs.Stream.{IsInStream}
use Rattle.terms.specs.Tests.{ShareElement}
use Rattle.sorted.specs.ElementKeys.{Key, key_cmp}
use Rattle.stream.specs.declared.breaches.Unordered.{Unordered}
use Rattle.stream.specs.Breaches.{IsUnordered}

-- an element, and an owner of SYSMODs that change it
abbrev pub Part : Type 0
Part = Key × Id

-- their derived order
abbrev pub part_cmp : Part → Part → Ordering
part_cmp a b = ordering_then (key_cmp a.0 b.0) (slice_cmp nat_cmp a.1 b.1)

-- a SYSMOD that changes the element and has the owner
pub record Claim : Type 0 where
  pub part : Part
  pub id : Id

abbrev pub a_claim : Part → Id → Claim
a_claim part x = record { part = part; id = x }

abbrev pub claim_of : Global → Choice → Id → Change → Claim
claim_of g c x h = a_claim (change_key h, owner g c x) x

-- those of one SYSMOD
abbrev pub claims_of : Global → Choice → Id → List Claim
claims_of g c x = map (claim_of g c x) (changes_of g x)

pub record IsClaim (g : Global) (c : Choice) (a : Claim) : Type 0 where
  pub stream : IsInStream c a.id
  pub owner : owner g c a.id ≡ a.part.1
  pub changes : IsTrue (has_change g a.id a.part.0.0 a.part.0.1)

abbrev pub an_unordered : Part → Id → Id → Unordered
an_unordered part x y = record { elem_type = part.0.0; name = part.0.1; one = x; other = y }

-- x is over the one before it, if there is one. If not, the pair is found.
abbrev pub Compares : Choice → Part → Id → Option Id → List Unordered → List Unordered → Type 0
Compares c part x None found after = after ≡ found
Compares c part x (Some y) found after =
    (IsOver c x y × (after ≡ found)) ⊎ ((¬ IsOver c x y) × (after ≡ found ++ an_unordered part y x ∷ []))

abbrev pub HasFound : List Unordered → Type 0
HasFound found = 0 < length found

-- they are one, or one is over the other
abbrev pub MayShare : Choice → Id → Id → Type 0
MayShare c x y = (x ≡ y) ⊎ IsOver c x y ⊎ IsOver c y x

-- x is none of them, and none of them is over x
abbrev pub AreBefore : Choice → Id → List Claim → Type 0
AreBefore c x claims = (a : Claim) → Contains claims a → (a.id ≢ x) × ¬ IsOver c a.id x

-- These claims are compared. The last one of each part is known, and is over the others of the part as long as nothing
-- is found.
pub record IsCompared (g : Global) (c : Choice) (claims : List Claim) (last : BTreeMap Part Id)
    (found : List Unordered) : Type 0 where
  pub valid : (a : Claim) → Contains claims a → IsClaim g c a
  pub known : (a : Claim) → Contains claims a → (y : Id) × (get part_cmp last a.part ≡ Some y)
      × (HasFound found ⊎ (a.id ≡ y) ⊎ IsOver c y a.id)
  pub stands : (k : Part) (y : Id) → get part_cmp last k ≡ Some y → Contains claims (a_claim k y)
  pub sound : All (IsUnordered g c) found
  pub complete : (a b : Claim) → Contains claims a → Contains claims b → a.part ≡ b.part
      → HasFound found ⊎ MayShare c a.id b.id

-- Of two of these that have one owner and change one element, one is over the other.
abbrev pub AreOrdered : Global → Choice → List Id → Type 0
AreOrdered g c ids =
    (x y : Id) → Contains ids x → Contains ids y → x ≢ y → owner g c x ≡ owner g c y → ShareElement g x y
    → IsOver c x y ⊎ IsOver c y x
