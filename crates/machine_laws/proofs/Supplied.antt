-- What is applied, supplied and waived in a zone, and in a zone less deletions.
use Rattle.std.proofs.Common.{◌≡◌, ◌⊎◌, ◌∙◌, Bool, true, false, not, List, [], ◌∷◌, Option, Some, None, Contains}
use Rattle.std.proofs.Common.{inl, inr, refl, sym, ap, subst, true≢false}
use Rattle.std.specs.Prelude.{if◌then◌else◌}
use Rattle.std.proofs.lemmas.Bool.{and_parts, and_from, or_cases, or_left, or_right, not-true, not_from_false}
use Rattle.std.proofs.lemmas.Bool.{false_from_ne_true}
use Rattle.std.proofs.lemmas.Option.{same_Some}
use Rattle.terms.proofs.ListMembers.{here, none_in, in_filter, filter_in}
use Rattle.terms.specs.declared.kinds.ElemType.{ElemType}
use Rattle.terms.specs.Types.{Text, Id, Global, Element, Zone}
use Rattle.terms.specs.Lookups.{IsZone, is_nil, is_in, is_applied, is_supplied, supby_of}
use Rattle.terms.specs.Lookups.{waived_of, element_of}
use Rattle.terms.specs.Choice.{Choice}
use Rattle.terms.specs.Over.{chain}
use Rattle.terms.specs.Deleted.{is_deleted, is_taken_out, zone_less}
use Rattle.terms.proofs.Ids.{is_in_from_Contains, Contains_from_is_in}
use Rattle.zones.proofs.Filtered.{passing}
use Rattle.machine_laws.proofs.TakenOff.{waived_left as waived_still}
use Rattle.zones.proofs.Lookups.{is_applied_less, supby_of_less, element_of_less}
use Rattle.terms.proofs.Searches.{passes_some, some_passes}

module _ (zone : Zone) where
  -- what is supplied is applied or superseded
  pub supplied_or : (z : Id) → is_supplied zone z ≡ true
      → (is_applied zone z ≡ true) ⊎ ((y : Id) × Contains (supby_of zone z) y)
  supplied_or z is = elim (or_cases (is_applied zone z) (not (is_nil (supby_of zone z))) is) [
    | inl applied ↦ inl applied
    | inr some ↦ inr (by (supby_of zone z) refl some)
  ]
    where
      by : (ids : List Id) → supby_of zone z ≡ ids → not (is_nil ids) ≡ true
          → (y : Id) × Contains (supby_of zone z) y
      by [] at some = absurd (true≢false (sym some))
      by (y ∷ ys) at some = (y, subst (λ ids. Contains ids y) (sym at) (here y ys))

  pub supplied_applied : (z : Id) → is_applied zone z ≡ true → is_supplied zone z ≡ true
  supplied_applied z on = or_left (is_applied zone z) (not (is_nil (supby_of zone z))) on

  pub supplied_by : (z y : Id) → Contains (supby_of zone z) y → is_supplied zone z ≡ true
  supplied_by z y there = or_right (is_applied zone z) (not (is_nil (supby_of zone z))) (by (supby_of zone z) there)
    where
      by : (ids : List Id) → Contains ids y → not (is_nil ids) ≡ true
      by [] none = absurd (none_in y none)
      by (w ∷ ws) some = refl

-- More deletions delete more.
pub deleted_more : (g : Global) (c : Choice) (dels more : List Id) → ((z : Id) → Contains dels z → Contains more z)
    → (x : Id) → is_deleted g c dels x ≡ true → is_deleted g c more x ≡ true
deleted_more g c dels more within x deleted =
    let some = some_passes (λ y. is_in dels y) (chain g c x) deleted in
    passes_some (λ y. is_in more y) (chain g c x) some.0 some.1
    (is_in_from_Contains more some.0 (within some.0 (Contains_from_is_in dels some.0 some.2)))

module _ (g : Global) (c : Choice) (zone : Zone) (is_zone : IsZone zone) where
  -- what deletions leave applied, was applied and is not deleted
  pub left_applied : (dels : List Id) (x : Id) → is_applied (zone_less g c dels zone) x ≡ true
      → (is_applied zone x ≡ true) × (is_deleted g c dels x ≡ false)
  left_applied dels x on =
      let both = and_parts (is_applied zone x) (not (is_deleted g c dels x))
      (sym (is_applied_less g c dels zone is_zone x) ∙ on) in
      (both.0, not-true (is_deleted g c dels x) both.1)

  pub applied_left : (dels : List Id) (x : Id) → is_applied zone x ≡ true → is_deleted g c dels x ≡ false
      → is_applied (zone_less g c dels zone) x ≡ true
  applied_left dels x on stays =
      is_applied_less g c dels zone is_zone x
      ∙ and_from (is_applied zone x) (not (is_deleted g c dels x)) on (not_from_false (is_deleted g c dels x) stays)

  -- who still supersedes z did, and is not taken out
  pub left_supby : (dels : List Id) (z y : Id) → Contains (supby_of (zone_less g c dels zone) z) y
      → Contains (supby_of zone z) y × (is_taken_out g c dels zone y ≡ false)
  left_supby dels z y there =
      let from = filter_in (λ y. not (is_taken_out g c dels zone y)) (supby_of zone z) y
      (subst (λ ids. Contains ids y) (supby_of_less g c dels zone is_zone z) there) in
      (from.0, not-true (is_taken_out g c dels zone y) from.1)

  pub supby_left : (dels : List Id) (z y : Id) → Contains (supby_of zone z) y → is_taken_out g c dels zone y ≡ false
      → Contains (supby_of (zone_less g c dels zone) z) y
  supby_left dels z y there stays =
      subst (λ ids. Contains ids y) (sym (supby_of_less g c dels zone is_zone z))
      (in_filter (λ y. not (is_taken_out g c dels zone y)) (supby_of zone z) y there
      (not_from_false (is_taken_out g c dels zone y) stays))

  -- what stays applied waives what it did
  pub waived_left : (dels : List Id) (x : Id) → is_applied (zone_less g c dels zone) x ≡ true
      → waived_of (zone_less g c dels zone) x ≡ waived_of zone x
  unfolding zone_less
  waived_left dels x on =
      waived_still (is_taken_out g c dels zone) zone (zone_less g c dels zone) is_zone refl x on

  -- an element is left where its owner is not deleted
  pub left_element : (dels : List Id) (type : ElemType) (name : Text) (e : Element)
      → element_of (zone_less g c dels zone) type name ≡ Some e
      → (element_of zone type name ≡ Some e) × (is_deleted g c dels e.fmid ≡ false)
  left_element dels type name e found =
      by (element_of zone type name) refl (sym (element_of_less g c dels zone is_zone type name) ∙ found)
    where
      kept : (a : Element) → element_of zone type name ≡ Some a → (b : Bool) → is_deleted g c dels a.fmid ≡ b
          → (if not b then Some a else None) ≡ Some e
          → (element_of zone type name ≡ Some e) × (is_deleted g c dels e.fmid ≡ false)
      kept a at true out some = absurd (cc some)
      kept a at false stays some =
          (at ∙ some, subst (λ e. is_deleted g c dels e.fmid ≡ false) (same_Some a e some) stays)

      by : (o : Option Element) → element_of zone type name ≡ o
          → passing (λ e. not (is_deleted g c dels e.fmid)) o ≡ Some e
          → (element_of zone type name ≡ Some e) × (is_deleted g c dels e.fmid ≡ false)
      by None at some = absurd (cc some)
      by (Some a) at some = kept a at (is_deleted g c dels a.fmid) refl some

  -- Fewer deletions leave more.
  module _ (dels more : List Id) (within : (z : Id) → Contains dels z → Contains more z) where
    pub undeleted : (x : Id) → is_deleted g c more x ≡ false → is_deleted g c dels x ≡ false
    undeleted x stays = false_from_ne_true (is_deleted g c dels x)
        (λ deleted. true≢false (sym (deleted_more g c dels more within x deleted) ∙ stays))

    pub fewer_applied : (x : Id) → is_applied (zone_less g c more zone) x ≡ true
        → is_applied (zone_less g c dels zone) x ≡ true
    fewer_applied x on =
        let was = left_applied more x on in applied_left dels x was.0 (undeleted x was.1)

    pub fewer_supby : (z y : Id) → Contains (supby_of (zone_less g c more zone) z) y
        → Contains (supby_of (zone_less g c dels zone) z) y
    fewer_supby z y there =
        let was = left_supby more z y there in
        supby_left dels z y was.0 (false_from_ne_true (is_taken_out g c dels zone y) (λ out.
        let both = and_parts (is_applied zone y) (is_deleted g c dels y) out in
        true≢false (sym (and_from (is_applied zone y) (is_deleted g c more y) both.0
        (deleted_more g c dels more within y both.1)) ∙ was.1)))

    pub fewer_supplied : (z : Id) → is_supplied (zone_less g c more zone) z ≡ true
        → is_supplied (zone_less g c dels zone) z ≡ true
    fewer_supplied z is = elim (supplied_or (zone_less g c more zone) z is) [
      | inl applied ↦ supplied_applied (zone_less g c dels zone) z (fewer_applied z applied)
      | inr by ↦ supplied_by (zone_less g c dels zone) z by.0 (fewer_supby z by.0 by.1)
    ]

    pub fewer_element : (type : ElemType) (name : Text) (e : Element)
        → element_of (zone_less g c more zone) type name ≡ Some e
        → element_of (zone_less g c dels zone) type name ≡ Some e
    fewer_element type name e found =
        let was = left_element more type name e found in
        element_of_less g c dels zone is_zone type name
        ∙ ap (passing (λ e. not (is_deleted g c dels e.fmid))) was.0
        ∙ ap (λ b. if not b then Some e else None) (undeleted e.fmid was.1)
