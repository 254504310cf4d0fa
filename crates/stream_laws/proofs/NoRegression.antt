-- In a zone of a clean stream, no candidate regresses an element of its owner, and no two candidates clash by one.
use Rattle.std.proofs.Common.{◌≡◌, ◌≢◌, ◌∙◌, Bool, true, false, not, List, [], ◌∷◌, Some, Contains}
use Rattle.std.proofs.Common.{IsTrue, is_some, length, filter, inl, inr, refl, sym, ap, subst, arith, true≢false}
use Rattle.std.specs.Prelude.{◌&&◌, ◌==◌, ◌-◌, position, slice_get, nat_lt, unwrap_or}
use Rattle.std.specs.List.{position_or_len}
use Rattle.std.specs.Option.{option_map_or}
use Rattle.std.specs.Str.{bytes_eq}
use Rattle.std.proofs.lemmas.Bool.{and_parts, ltb-true, eqb-true}
use Rattle.std.proofs.lemmas.List.Elements.{All-contains}
use Rattle.std.proofs.lemmas.Option.{slice_get_cases}
use Rattle.terms.specs.declared.kinds.ElemType.{ElemType}
use Rattle.terms.specs.Types.{Text, Id, Applied, Global, Element, Zone, Selection, type_number}
use Rattle.terms.specs.Lookups.{IsZone, is_nil, is_in, has_change, element_of, is_applied, is_supplied}
use Rattle.terms.specs.Choice.{Choice, vers_of, fits, counting}
use Rattle.terms.specs.Over.{IsOver, owner, chain}
use Rattle.terms.specs.Changes.{has_update}
use Rattle.terms.specs.Candidates.{is_installable, AreCandidates}
use Rattle.terms.specs.Deleted.{deletions}
use Rattle.terms.specs.Tests.{ShareElement}
use Rattle.terms.specs.Closed.{IsOwned, IsClosedZone}
use Rattle.terms.proofs.ChangedElements.{replaces_changes, update_changes}
use Rattle.terms.proofs.ElementOrder.{type_from_number}
use Rattle.terms.proofs.ListMembers.{here_or, there}
use Rattle.terms.proofs.Searches.{find_gives}
use Rattle.terms.proofs.TextOrder.{same_or_not, same_from}
use Rattle.machine_laws.proofs.AlikeSysmods.{closed_by}
use Rattle.machine_laws.proofs.AppliedIds.{applied_in_ids}
use Rattle.machine_laws.proofs.Decisions.{candidate_open}
use Rattle.machine_laws.proofs.Installable.{not_supplied}
use Rattle.machine_laws.proofs.KeptChoice.{undated, counts_whatever}
use Rattle.machine_laws.proofs.Supplied.{supplied_applied, left_element}
use Rattle.change.proofs.KeptTogether.{unsupplied}
use Rattle.terms.specs.Stream.{IsInStream, IsClean, IsOfStream}
use Rattle.stream_laws.specs.Laws.{NeverClashesByElement, NeverRegresses}
use Rattle.stream_laws.proofs.Below.{supported, supplied_below}

-- ---- candidates

-- of some items the first that passes, or otherwise the first
first_there : {X : Type 0} (p : X → Bool) (xs : List X) → not (is_nil xs) ≡ true
    → is_some (slice_get xs (unwrap_or (position p xs) 0)) ≡ true
first_there {X} p xs some = by (nat_lt (position_or_len p xs) (length xs)) refl
  where
    front : (ys : List X) → not (is_nil ys) ≡ true → is_some (slice_get ys 0) ≡ true
    front [] none = absurd (true≢false (sym none))
    front (y ∷ ys) there = refl

    by : (b : Bool) → nat_lt (position_or_len p xs) (length xs) ≡ b
        → is_some (slice_get xs (unwrap_or (position p xs) 0)) ≡ true
    by true e =
        let below = ltb-true (position_or_len p xs) (length xs) e in
        rw e (elim (slice_get_cases xs (position_or_len p xs)).1 [
          | inl there ↦ ap is_some there.2
          | inr past ↦ absurd (omega (arith, below, past.0))
        ])
    by false e = rw e (front xs some)

-- what may be installed is in the stream
pub installable_in_stream : (g : Global) (zone : Zone) (cands : List Id) (x : Id)
    → IsTrue (is_installable g zone x) → IsInStream (counting g zone cands) x
installable_in_stream g zone cands x ok =
    ap (λ o. is_some (slice_get (vers_of g zone.srel x) (option_map_or (λ (a : Applied). a.number - 1) o
    (unwrap_or (position (fits zone (is_in cands)) (vers_of g zone.srel x)) 0))))
    (undated zone x (unsupplied zone x (not_supplied g zone x ok)))
    ∙ first_there (fits zone (is_in cands)) (vers_of g zone.srel x) (and_parts _ _ (and_parts _ _ ok).0).0

pub candidate_installable : (g : Global) (zone : Zone) (sel : Selection) (cands : List Id)
    → AreCandidates g zone sel cands → (x : Id) → Contains cands x → IsTrue (is_installable g zone x)
candidate_installable g zone sel cands are x there =
    (and_parts _ _ (candidate_open g zone sel x ((are.members x).0 there))).0

-- ---- a zone by another choice

-- A closed zone is of the stream by each choice by which the same counts for what is applied.
pub of_stream_closed : (g h : Global) (was now : Choice) (zone : Zone) → IsClosedZone h now zone
    → ((x : Id) → IsTrue (is_applied zone x) → was x ≡ now x) → IsOfStream g was zone → IsOfStream h now zone
of_stream_closed g h was now zone closed same is = record {
  closed = closed;
  unwaived = is.unwaived;
  supby = λ x b. (
    λ there.
        let by = (is.supby x b).0 there in
        (by.0, subst (λ o. Contains (option_map_or (λ v. v.sup) o []) x) (same b by.0) by.1),
    λ by.
        (is.supby x b).1 (by.0, subst (λ o. Contains (option_map_or (λ v. v.sup) o []) x) (sym (same b by.0)) by.1),
  );
}

pub of_stream_by : (g : Global) (was now : Choice) (zone : Zone) → IsZone zone
    → ((x : Id) → IsTrue (is_applied zone x) → was x ≡ now x) → IsOfStream g was zone → IsOfStream g now zone
of_stream_by g was now zone is_zone same is = of_stream_closed g g was now zone
    (closed_by g was now zone is.closed (λ x there. same x (applied_in_ids zone is_zone x there))) same is

-- the candidates do not matter
pub of_stream_whatever : (g : Global) (zone : Zone) (cands others : List Id) → IsZone zone
    → IsOfStream g (counting g zone cands) zone → IsOfStream g (counting g zone others) zone
of_stream_whatever g zone cands others is_zone =
    of_stream_by g (counting g zone cands) (counting g zone others) zone is_zone
    (λ x on. counts_whatever g zone cands others x on)

-- ---- elements

-- an element that is found has the type and the name
pub found_key : (zone : Zone) (type : ElemType) (name : Text) (e : Element) → element_of zone type name ≡ Some e
    → Contains zone.elements e × (e.elem_type ≡ type) × (e.name ≡ name)
found_key zone type name e found =
    let gives = find_gives (λ e. (type_number e.elem_type == type_number type) && bytes_eq e.name name) zone.elements e
    found in
    let both = and_parts (type_number e.elem_type == type_number type) (bytes_eq e.name name) gives.0 in (
      gives.1,
      type_from_number e.elem_type type (eqb-true _ _ both.0),
      same_from e.name name both.1,
    )

-- the RMID and the UMIDs change it
pub level_changes : (g : Global) (c : Choice) (zone : Zone) (e : Element) → IsOwned g c zone e → (z : Id)
    → Contains (e.rmid ∷ e.umids) z → IsTrue (has_change g z e.elem_type e.name)
level_changes g c zone e owned z within = elim (here_or e.rmid e.umids z within) [
  | inl same ↦ subst (λ y. IsTrue (has_change g y e.elem_type e.name)) same
      (replaces_changes g e.rmid e.elem_type e.name owned.rmid)
  | inr later ↦ update_changes g z e.elem_type e.name
      (All-contains (λ y. IsTrue (has_update g y e.elem_type e.name)) e.umids z owned.umids later)
]

module _ (g : Global) (c : Choice) (zone : Zone) (clean : IsClean g c) (is : IsOfStream g c zone) where
  -- What the zone does not supply is over each applied SYSMOD of its owner with which it shares an element.
  over_applied : (x z : Id) → IsInStream c x → is_supplied zone x ≡ false → is_applied zone z ≡ true
      → owner g c x ≡ owner g c z → ShareElement g x z → IsOver c x z
  over_applied x z in_stream out on owners share =
      elim (clean.ordered x z in_stream (supported g c zone clean.requisites is z on).received other owners share) [
        | inl over ↦ over
        | inr under ↦ absurd (true≢false (sym (supplied_below g c zone clean.requisites is z x
            (supplied_applied zone z on) under) ∙ out))
      ]
    where
      other : x ≢ z
      other same = true≢false (sym (supplied_applied zone z on) ∙ ap (is_supplied zone) (sym same) ∙ out)

  -- So it is over the level of each element of its owner that it changes.
  pub over_level : (x : Id) (type : ElemType) (name : Text) (e : Element) → IsInStream c x → is_supplied zone x ≡ false
      → element_of zone type name ≡ Some e → e.fmid ≡ owner g c x → IsTrue (has_change g x type name)
      → (z : Id) → Contains (e.rmid ∷ e.umids) z → IsOver c x z
  over_level x type name e in_stream out found owned changes z within =
      over_applied x z in_stream out (All-contains (λ y. is_applied zone y ≡ true) ids z of.applied among)
      (sym owned ∙ sym (All-contains (λ y. owner g c y ≡ e.fmid) ids z of.owner among)) (
        type,
        name,
        changes,
        subst (λ n. IsTrue (has_change g z type n)) key.2
            (subst (λ t. IsTrue (has_change g z t e.name)) key.1 (level_changes g c zone e of z within)),
      )
    where
      ids : List Id
      ids = e.fmid ∷ e.rmid ∷ e.umids

      key : Contains zone.elements e × (e.elem_type ≡ type) × (e.name ≡ name)
      key = found_key zone type name e found

      of : IsOwned g c zone e
      of = All-contains (IsOwned g c zone) zone.elements e is.closed.elements key.0

      among : Contains ids z
      among = there e.fmid (e.rmid ∷ e.umids) z within

-- ---- the laws

pub never_clashes_by_element : NeverClashesByElement
never_clashes_by_element g zone related sel cands bypass is_zone are clean x y of_x of_y other owners share apart =
    elim apart [
      | inl owned ↦ owned owners
      | inr unordered ↦ elim (clean.ordered x y (candidate x of_x) (candidate y of_y) other owners share) [
        | inl over ↦ unordered.0 over
        | inr under ↦ unordered.1 under
      ]
    ]
  where
    candidate : (z : Id) → Contains cands z → IsInStream (counting g zone cands) z
    candidate z of = installable_in_stream g zone cands z (candidate_installable g zone sel cands are z of)

pub never_regresses : NeverRegresses
never_regresses g zone related sel cands bypass is_zone are clean is x of own
    (bypassed, (e, z, (type, name, changes, found), within, apart)) =
    apart (over_level g c zone clean (of_stream_whatever g zone [] cands is_zone is) x type name e
    (installable_in_stream g zone cands x ok) (not_supplied g zone x ok)
    (left_element g c zone is_zone (deletions c (filter (is_in cands) (chain g c x))) type name e found).0
    owned changes z within)
  where
    c : Choice
    c = counting g zone cands

    ok : IsTrue (is_installable g zone x)
    ok = candidate_installable g zone sel cands are x of

    owned : e.fmid ≡ owner g c x
    owned = elim (same_or_not e.fmid (owner g c x)) [
      | inl same ↦ same
      | inr other ↦ absurd (own (e, (type, name, changes, found), other))
    ]
