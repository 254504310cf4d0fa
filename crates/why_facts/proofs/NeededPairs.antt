-- Which applied SYSMODs alone supply what another one needs.
use Rattle.std.proofs.Common.{◌≡◌, ◌≢◌, ◌∙◌, inl, inr, Bool, true, false, List, [], ◌∷◌, refl, sym, ap, subst, Contains}
use Rattle.std.proofs.Common.{IsTrue, map, filter, not, true≢false}
use Rattle.std.specs.Prelude.{◌↔◌, ◌&&◌, if◌then◌else◌}
use Rattle.std.specs.List.{flat_map, list_all}
use Rattle.std.specs.Str.{bytes_eq}
use Rattle.terms.proofs.Applied.{applied_are}
use Rattle.terms.proofs.ListMembers.{here, there, here_or, none_in, in_map, map_in, in_flat, flat_in, in_filter}
use Rattle.terms.proofs.ListMembers.{filter_in}
use Rattle.terms.proofs.Searches.{all_pass, passes_all}
use Rattle.terms.proofs.TextOrder.{same_from, same_itself}
use Rattle.terms.specs.Types.{Id}
use Rattle.terms.specs.Lookups.{IsZone, is_in, is_applied, applied_ids}
use Rattle.terms.specs.Restore.{Restoring}
use Rattle.undo.specs.Dependences.{dependences_of, all_within}
use Rattle.undo.proofs.Needing.{depends_from, depends_to, member_applied}
use Rattle.why_facts.specs.Needed.{sole, soles, needing}
use Rattle.terms.specs.declared.codes.NeedKind.TheVariants.{Dep}
use Rattle.terms.specs.Types.{Global, Zone}
use Rattle.terms.specs.Choice.{Choice, counting}
use Rattle.terms.specs.Restore.{NeedsInRestore}
use Rattle.terms.proofs.Ids.{is_in_from_Contains, Contains_from_is_in}
use Rattle.std.proofs.lemmas.Bool.{and_parts, not-true}
use Rattle.why_facts.specs.Needed.{needed_pairs, AllNeeded}
use Rattle.why_facts.proofs.Dependents.{needs_it}

abbrev listed : Id → Id → Bool
listed x = is_in (x ∷ [])

one : (x v : Id) → listed x v ≡ true → v ≡ x
one x v on = elim (here_or x [] v (Contains_from_is_in (x ∷ []) v on)) [
  | inl same ↦ sym same
  | inr later ↦ absurd (none_in v later)
]

itself : (x : Id) → listed x x ≡ true
itself x = is_in_from_Contains (x ∷ []) x (here x [])

-- it is the one member just where all members are x, and x is one
sole_is : (group : List Id) (x : Id) → Contains (sole group) x
    ↔ ((list_all (listed x) group ≡ true) × Contains group x)
sole_is [] x = (λ h. absurd (none_in x h), λ h. absurd (none_in x h.1))
sole_is (w ∷ ws) x = by (list_all (bytes_eq w) ws) refl
  where
    member : list_all (bytes_eq w) ws ≡ true → (v : Id) → Contains (w ∷ ws) v → listed w v ≡ true
    member all v h = elim (here_or w ws v h) [
      | inl same ↦ subst (λ u. listed w u ≡ true) same (itself w)
      | inr later ↦
          subst (λ u. listed w u ≡ true) (same_from w v (passes_all (bytes_eq w) ws v all later)) (itself w)
    ]

    back : (v : Id) → Contains ws v → list_all (listed x) (w ∷ ws) ≡ true → bytes_eq w v ≡ true
    back v h all =
        let first = one x w (passes_all (listed x) (w ∷ ws) w all (here w ws)) in
        let other = one x v (passes_all (listed x) (w ∷ ws) v all (there w ws v h)) in
        subst (λ u. bytes_eq w u ≡ true) (first ∙ sym other) (same_itself w)

    by : (b : Bool) → list_all (bytes_eq w) ws ≡ b
        → Contains (if b then w ∷ [] else []) x ↔ ((list_all (listed x) (w ∷ ws) ≡ true) × Contains (w ∷ ws) x)
    by true e = (
      λ h. elim (here_or w [] x h) [
        | inl same ↦ subst (λ u. (list_all (listed u) (w ∷ ws) ≡ true) × Contains (w ∷ ws) u) same
            (all_pass (listed w) (w ∷ ws) (member e), here w ws)
        | inr none ↦ absurd (none_in x none)
      ],
      λ h. subst (Contains (w ∷ [])) (one x w (passes_all (listed x) (w ∷ ws) w h.0 (here w ws))) (here w []),
    )
    by false e = (
      λ h. absurd (none_in x h),
      λ h. absurd (true≢false (sym (all_pass (bytes_eq w) ws (λ v of. back v of h.0)) ∙ e)),
    )

module _ (r : Restoring) (is_zone : IsZone r.zone) where
  -- x is one of those, just where y depends on it alone
  sole_from : (x y : Id) → Contains (soles r y) x
      → IsTrue (is_applied r.zone x) × Contains (all_within (listed x) (dependences_of r y)) x
  sole_from x y h =
      let m = flat_in sole (dependences_of r y) x h in
      let is = (sole_is m.0 x).0 m.2 in (
        member_applied r is_zone (listed x) x y m.0 m.1 is.1,
        in_flat (λ g. g) (filter (list_all (listed x)) (dependences_of r y)) m.0 x
            (in_filter (list_all (listed x)) (dependences_of r y) m.0 m.1 is.0) is.1,
      )

  sole_to : (x y : Id) → Contains (all_within (listed x) (dependences_of r y)) x → Contains (soles r y) x
  sole_to x y h =
      let m = flat_in (λ g. g) (filter (list_all (listed x)) (dependences_of r y)) x h in
      let kept = filter_in (list_all (listed x)) (dependences_of r y) m.0 m.1 in
      in_flat sole (dependences_of r y) m.0 x kept.0 ((sole_is m.0 x).1 (kept.1, m.2))

  needing_is : (x y : Id) (p : Id × Id) → Contains (needing x p) y → (p.0 ≡ x) × (p.1 ≡ y) × (y ≢ x)
  needing_is x y p = by (bytes_eq p.0 x && not (bytes_eq p.1 x)) refl
    where
      by : (b : Bool) → (bytes_eq p.0 x && not (bytes_eq p.1 x)) ≡ b → Contains (if b then p.1 ∷ [] else []) y
          → (p.0 ≡ x) × (p.1 ≡ y) × (y ≢ x)
      by true e h =
          let parts = and_parts (bytes_eq p.0 x) (not (bytes_eq p.1 x)) e in
          let second : p.1 ≡ y = elim (here_or p.1 [] y h) [
            | inl same ↦ same
            | inr none ↦ absurd (none_in y none)
          ] in (
            same_from p.0 x parts.0,
            second,
            λ same. true≢false (sym (subst (λ u. bytes_eq u x ≡ true) (sym (second ∙ same)) (same_itself x))
                ∙ not-true (bytes_eq p.1 x) parts.1),
          )
      by false e h = absurd (none_in y h)

  needing_it : (x y : Id) → y ≢ x → Contains (needing x (x, y)) y
  needing_it x y other = by (bytes_eq y x) refl
    where
      by : (b : Bool) → bytes_eq y x ≡ b → Contains (needing x (x, y)) y
      by true e = absurd (other (same_from y x e))
      by false e = rw (same_itself x, e) (here y [])

  needed_from : (x y : Id) → Contains (flat_map (needing x) (needed_pairs r)) y → NeedsInRestore r (listed x) x Dep y
  needed_from x y h =
      let p = flat_in (needing x) (needed_pairs r) y h in
      let is = needing_is x y p.0 p.2 in
      let m = flat_in (λ w. map (λ v. (v, w)) (soles r w)) (applied_ids r.zone) p.0 p.1 in
      let v = map_in (λ u. (u, m.0)) (soles r m.0) p.0 m.2 in
      let first : v.0 ≡ x = ap (λ (q : Id × Id). q.0) v.2 ∙ is.0 in
      let second : m.0 ≡ y = ap (λ (q : Id × Id). q.1) v.2 ∙ is.1 in
      let from = sole_from x y
      (subst (λ w. Contains (soles r w) x) second (subst (Contains (soles r m.0)) first v.1)) in (
        from.0,
        record {
          other = is.2;
          applied = (applied_are r.zone is_zone y).0 (subst (Contains (applied_ids r.zone)) second m.1);
          depends = depends_from r is_zone (listed x) x y from.1;
        },
      )

  needed_to : (x y : Id) → NeedsInRestore r (listed x) x Dep y → Contains (flat_map (needing x) (needed_pairs r)) y
  needed_to x y n =
      in_flat (needing x) (needed_pairs r) (x, y) y
      (in_flat (λ w. map (λ v. (v, w)) (soles r w)) (applied_ids r.zone) y (x, y)
      ((applied_are r.zone is_zone y).1 n.1.applied)
      (in_map (λ v. (v, y)) (soles r y) x
      (sole_to x y (depends_to r is_zone (listed x) x y n.0 (itself x) n.1.depends))))
      (needing_it x y n.1.other)

-- the pairs of a zone, by the ++VERs that count without candidates
pub all_needed : (g : Global) (c : Choice) (zone : Zone) (pairs : List (Id × Id)) → IsZone zone
    → c ≡ counting g zone []
    → pairs ≡ needed_pairs (record { global = g; choice = c; zone = zone; accepted = zone }) → AllNeeded g zone pairs
all_needed g c zone pairs is_zone counts are x y =
    let r : Restoring = record { global = g; choice = c; zone = zone; accepted = zone } in
    let it = needs_it g c zone x y counts in (
      λ h. it.0 (needed_from r is_zone x y (subst (λ l. Contains (flat_map (needing x) l) y) are h)),
      λ n. subst (λ l. Contains (flat_map (needing x) l) y) (sym are) (needed_to r is_zone x y (it.1 n)),
    )
