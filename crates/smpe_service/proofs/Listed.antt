-- The ids of a RESTORE's list are its candidates and those that are left out.
use Rattle.std.proofs.Common.{◌≡◌, ◌∙◌, inl, inr, Bool, true, false, List, ◌++◌, Contains, ap, filter, map, not, refl}
use Rattle.std.proofs.Common.{subst, sym}
use Rattle.std.specs.Prelude.{◌↔◌}
use Rattle.std.proofs.lemmas.Cmp.{nat_list_cmp_total}
use Rattle.std.proofs.lemmas.List.Elements.{Contains-append_left, Contains-append_right, Contains-append_cases}
use Rattle.terms.specs.declared.not_chosen.NotChosen.TheVariants.{NotApplied}
use Rattle.terms.specs.Types.{Id, RestoreList}
use Rattle.terms.specs.Lookups.{IsRising, is_applied}
use Rattle.terms.specs.Restore.{Restoring}
use Rattle.terms.proofs.ListMembers.{filter_in, in_filter, in_map, map_in}
use Rattle.terms.proofs.RisingAlike.{rises_only}
use Rattle.undo.specs.Candidates.{HasCandidates}
use Rattle.zones.specs.declared.candidates.Candidates.{Candidates}

module _ (r : Restoring) (what : RestoreList) (c : Candidates) (has : HasCandidates r what c) where
  abbrev left_out : List Id
  left_out = map (λ p. p.0) c.left_out.items

  left_from : (x : Id) → Contains left_out x → Contains has.listed x
  left_from x h =
      let m = map_in (λ p. p.0) c.left_out.items x h in
      let v = map_in (λ (y : Id). (y, NotApplied)) (filter (λ y. not (is_applied r.zone y)) has.listed) m.0
      (subst (λ l. Contains l m.0) has.left_out m.1) in
      subst (Contains has.listed) (ap (λ p. p.0) v.2 ∙ m.2)
      (filter_in (λ y. not (is_applied r.zone y)) has.listed v.0 v.1).0

  left_to : (x : Id) → Contains has.listed x → is_applied r.zone x ≡ false → Contains left_out x
  left_to x h off =
      in_map (λ p. p.0) c.left_out.items (x, NotApplied) (subst (λ l. Contains l (x, NotApplied)) (sym has.left_out)
      (in_map (λ (y : Id). (y, NotApplied)) (filter (λ y. not (is_applied r.zone y)) has.listed) x
      (in_filter (λ y. not (is_applied r.zone y)) has.listed x h (ap not off))))

  listed_from : (x : Id) → Contains (c.ids ++ left_out) x → Contains has.listed x
  listed_from x h = elim (Contains-append_cases c.ids left_out x h) [
    | inl cand ↦ (filter_in (is_applied r.zone) has.listed x (subst (λ l. Contains l x) has.ids cand)).0
    | inr left ↦ left_from x left
  ]

  listed_to : (x : Id) → Contains has.listed x → Contains (c.ids ++ left_out) x
  listed_to x h = by (is_applied r.zone x) refl
    where
      by : (b : Bool) → is_applied r.zone x ≡ b → Contains (c.ids ++ left_out) x
      by true on = Contains-append_left c.ids left_out x (subst (λ l. Contains l x) (sym has.ids)
          (in_filter (is_applied r.zone) has.listed x h on))
      by false off = Contains-append_right c.ids left_out x (left_to x h off)

  pub listed_are : (ids : List Id) → IsRising ids → ((x : Id) → Contains ids x ↔ Contains (c.ids ++ left_out) x)
      → ids ≡ has.listed
  listed_are ids rising same =
      rises_only nat_list_cmp_total (λ x. x) ids has.listed rising has.are_listed.rising
      (λ x h. listed_from x ((same x).0 h)) (λ x h. (same x).1 (listed_to x h))
