-- RESTORE: its list, its tests, its needs, and the target zone afterwards.
-- (IBM z/OS SMP/E Commands, the RESTORE command. Its candidates, tests, needs and effect are this project's profile.)
use Rattle.std.specs.Prelude.{◌≡◌, ◌≢◌, ◌⊎◌, ◌↔◌, ◌&&◌, ◌==◌, Bool, true, false, not, List, [], ◌∷◌, Some, filter}
use Rattle.std.specs.Prelude.{IsTrue, IsFalse}
use Rattle.std.specs.Prelude.{Contains, Any, All}
use Rattle.std.specs.List.{list_any}
use Rattle.std.specs.Option.{option_map_or}
use Rattle.terms.specs.declared.kinds.ElemType.{ElemType}
use Rattle.terms.specs.declared.codes.Test.{Test}
use Rattle.terms.specs.declared.codes.Test.TheVariants.{AlreadyAccepted, HasDelete, OtherLevel}
use Rattle.terms.specs.declared.codes.NeedKind.{NeedKind}
use Rattle.terms.specs.declared.codes.NeedKind.TheVariants.{Elem, Dep}
use Rattle.terms.specs.Types.{Text, Id, Global, Element, Zone, RestoreList, RestoreSelect, RestoreGroup}
use Rattle.terms.specs.Lookups.{IsRising, IsZone, is_in, changes_of, has_change, element_of, is_applied, is_supplied}
use Rattle.terms.specs.Lookups.{applied_of, supplies, applied_ids}
use Rattle.terms.specs.Choice.{Choice, fmid_of, del_of}
use Rattle.terms.specs.Deleted.{entries_less}
use Rattle.terms.specs.Needs.{Serves, binding_ids}
use Rattle.terms.specs.Judging.{Judging}
use Rattle.terms.specs.Kept.{StaysKept}

-- the target zone, and its related distribution zone
pub record Restoring : Type 0 where
  pub global : Global
  pub choice : Choice
  pub zone : Zone
  pub accepted : Zone

-- ELEM: the other SYSMOD y is applied and not accepted, and changes an element that x changes too
pub record NeedsElem (r : Restoring) (x y : Id) : Type 0 where
  pub other : y ≢ x
  pub applied : IsTrue (is_applied r.zone y)
  pub not_accepted : IsFalse (is_supplied r.accepted y)
  pub shared : Any (λ h. IsTrue (has_change r.global y h.elem_type h.name)) (changes_of r.global x)

-- whether an applied SYSMOD outside the list supplies the id
abbrev pub is_supplied_outside : Restoring → (Id → Bool) → Id → Bool
is_supplied_outside r listed z = list_any (λ p. not (listed p) && supplies r.zone p z) (applied_ids r.zone)

-- DEP: y is another applied SYSMOD, and its FMID is x, or x supplies a requisite of y that no SYSMOD outside the list
-- supplies
pub record NeedsDep (r : Restoring) (listed : Id → Bool) (x y : Id) : Type 0 where
  pub other : y ≢ x
  pub applied : IsTrue (is_applied r.zone y)
  pub depends : (fmid_of r.choice y ≡ Some x)
      ⊎ Any (λ z. IsTrue (supplies r.zone x z) × IsFalse (is_supplied_outside r listed z))
      (binding_ids r.choice r.zone (is_applied r.zone) y)

-- what an applied x needs, given the list
abbrev pub NeedsInRestore : Restoring → (Id → Bool) → Id → NeedKind → Id → Type 0
NeedsInRestore r listed x Elem y = IsTrue (is_applied r.zone x) × NeedsElem r x y
NeedsInRestore r listed x Dep y = IsTrue (is_applied r.zone x) × NeedsDep r listed x y
NeedsInRestore r listed x _ y = ⊥

-- The set contains GROUP's ids and what its members need.
pub record IsClosedList (r : Restoring) (ids : List Id) (listed : Id → Bool) : Type 0 where
  pub start : (x : Id) → Contains ids x → IsTrue (listed x)
  pub grown : (x y : Id) (kind : NeedKind) → IsTrue (listed x) → NeedsInRestore r listed x kind y → IsTrue (listed y)

-- the list: SELECT's ids, or what all closed sets of GROUP have in common
abbrev pub IsListed : Restoring → RestoreList → Id → Type 0
IsListed r (RestoreSelect ids) x = Contains ids x
IsListed r (RestoreGroup ids) x = (listed : Id → Bool) → IsClosedList r ids listed → IsTrue (listed x)

-- the list, in rising order
pub record AreListed (r : Restoring) (what : RestoreList) (ids : List Id) : Type 0 where
  pub rising : IsRising ids
  pub members : (x : Id) → Contains ids x ↔ IsListed r what x

-- The applied ids of the list are candidates. The others get NOTAPPLIED.
abbrev pub restore_candidates : Restoring → List Id → List Id
restore_candidates r ids = filter (is_applied r.zone) ids

-- AlreadyAccepted: the distribution zone supplies it
abbrev pub IsAlreadyAccepted : Restoring → Id → Type 0
IsAlreadyAccepted r x = IsTrue (is_supplied r.accepted x)

-- HasDelete: it has DELETE
abbrev pub ComesWithDelete : Restoring → Id → Type 0
ComesWithDelete r x = del_of r.choice x ≢ []

-- whether FMID, RMID and each UMID of an element are applied
abbrev pub are_applied : Zone → Element → Bool
are_applied zone e = not (list_any (λ y. not (is_applied zone y)) (e.fmid ∷ e.rmid ∷ e.umids))

-- whether both zones have applied it, by the ++VER of one number
abbrev pub is_alike : Zone → Zone → Id → Bool
is_alike a b x = option_map_or (λ n. option_map_or (λ m. n.number == m.number) (applied_of b x) false)
    (applied_of a x) false

-- whether RMID and each UMID of an element are alike in two zones
abbrev pub are_alike : Zone → Zone → Element → Bool
are_alike a b e = not (list_any (λ y. not (is_alike a b y)) (e.rmid ∷ e.umids))

-- whether the target zone can take in an element of the distribution zone
abbrev pub may_return : Restoring → Element → Bool
may_return r e = are_applied r.zone e && are_alike r.zone r.accepted e

-- OtherLevel: the distribution zone has an element of it under an FMID, an RMID or a UMID that the target zone has not
-- applied, or under an RMID or a UMID that the two zones have applied by different ++VERs
abbrev pub ChangesOtherLevel : Restoring → Id → Type 0
ChangesOtherLevel r x =
    Any (λ h. IsFalse (option_map_or (may_return r) (element_of r.accepted h.elem_type h.name) true))
    (changes_of r.global x)

-- a candidate of RESTORE fails the test
abbrev pub FailsRestore : Restoring → Id → Test → Type 0
FailsRestore r x AlreadyAccepted = IsAlreadyAccepted r x
FailsRestore r x HasDelete = ComesWithDelete r x
FailsRestore r x OtherLevel = ChangesOtherLevel r x
FailsRestore r x _ = ⊥

-- a candidate that passes these tests
pub record MayBeRestored (r : Restoring) (ids : List Id) (x : Id) : Type 0 where
  pub cand : Contains (restore_candidates r ids) x
  pub passes : (test : Test) → ¬ FailsRestore r x test

-- what the candidates of a list are judged by
abbrev pub restore_judging : Restoring → List Id → Judging
restore_judging r ids = record {
  cands = restore_candidates r ids;
  fails = FailsRestore r;
  eligible = MayBeRestored r ids;
  needs = NeedsInRestore r (is_in ids);
  serves = Serves r.choice;
}

-- x is taken off: some set of such candidates that supports itself contains it
abbrev pub IsRestored : Restoring → List Id → Id → Type 0
IsRestored r ids x = StaysKept (restore_judging r ids) x

-- The target zone afterwards. A kept SYSMOD is no longer applied, waives nothing and leaves every SUPBY. The elements
-- that the removed SYSMODs change become those of the distribution zone, or go if it has none.
pub record Restores (r : Restoring) (kept : List Id) (new : Zone) : Type 0 where
  pub rest : new ≡ record r.zone { entries = new.entries; elements = new.elements }
  pub is_zone : IsZone new
  pub entries : new.entries ≡ entries_less (is_in kept) r.zone.entries
  pub reverted : (type : ElemType) (name : Text) → Any (λ x. IsTrue (has_change r.global x type name)) kept →
      element_of new type name ≡ element_of r.accepted type name
  pub others : (type : ElemType) (name : Text) → All (λ x. IsFalse (has_change r.global x type name)) kept →
      element_of new type name ≡ element_of r.zone type name
