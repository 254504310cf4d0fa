-- Who depends on whom, by the groups of SYSMODs on which one depends.
use Rattle.std.proofs.Common.{◌≡◌, ◌≢◌, ◌∙◌, ◌⊎◌, ℕ, ◌<◌, ◌+◌, inl, inr, Bool, true, false, not, List, [], ◌∷◌, ◌++◌}
use Rattle.std.proofs.Common.{map, filter, take, length, get_or}
use Rattle.std.proofs.Common.{Option, None, Some, refl, sym, ap, subst, cond, Contains, IsTrue, true≢false}
use Rattle.std.specs.Prelude.{◌↔◌, ◌&&◌, ◌||◌, Any, IsFalse}
use Rattle.std.specs.List.{flat_map, list_all}
use Rattle.std.specs.Str.{bytes_eq}
use Rattle.std.proofs.lemmas.Bool.{and_parts, not-true}
use Rattle.std.proofs.lemmas.Grind.{flat_map-append}
use Rattle.std.proofs.lemmas.List.{append-nil, take_more}
use Rattle.std.proofs.lemmas.List.Elements.{Contains-append_left, Contains-append_right, Contains-append_cases}
use Rattle.std.proofs.lemmas.List.Folds.{Any-from_list_any, list_any-from_Any}
use Rattle.terms.proofs.ListMembers.{here, here_or, none_in, in_map, map_in, in_filter, filter_in, in_flat, flat_in}
use Rattle.terms.proofs.Searches.{all_pass, passes_all}
use Rattle.terms.specs.Types.{Id}
use Rattle.terms.specs.Lookups.{IsZone, at_most_one, is_in, is_applied, applied_ids, supby_of, supplies}
use Rattle.terms.specs.Choice.{fmid_of}
use Rattle.terms.specs.Needs.{binding_ids}
use Rattle.terms.specs.Restore.{Restoring, NeedsDep, is_supplied_outside}
use Rattle.terms.proofs.Applied.{applied_are}
use Rattle.undo.proofs.Supplying.{supplier_is}
use Rattle.undo.specs.Dependences.{suppliers, dependences_of, all_within, dependents}

abbrev Pair : Type 0
Pair = Id × Id

pub some_in : (o : Option Id) (f : Id) → Contains (at_most_one o) f → o ≡ Some f
some_in None f h = absurd (none_in f h)
some_in (Some g) f h = elim (here_or g [] f h) [
  | inl same ↦ ap Some same
  | inr later ↦ absurd (none_in f later)
]

pub in_some : (o : Option Id) (f : Id) → o ≡ Some f → Contains (at_most_one o) f
in_some o f e = subst (λ v. Contains (at_most_one v) f) (sym e) (here f [])

-- the groups of what stands for them
pub within_items : {X : Type 0} (listed : Id → Bool) (items : X → List Id) (groups : List X)
    → flat_map items (filter (λ group. list_all listed (items group)) groups) ≡ all_within listed (map items groups)
within_items listed items [] = refl
within_items {X = X} listed items (group ∷ groups) =
    by (within_items listed items groups) (list_all listed (items group))
  where
    by : flat_map items (filter (λ g. list_all listed (items g)) groups) ≡ all_within listed (map items groups)
        → (b : Bool)
        → flat_map items (cond b (group ∷ filter (λ g. list_all listed (items g)) groups)
        (filter (λ g. list_all listed (items g)) groups))
        ≡ flat_map (λ g. g) (cond b (items group ∷ filter (list_all listed) (map items groups))
        (filter (list_all listed) (map items groups)))
    by rest true = ap (λ ids. items group ++ ids) rest
    by rest false = rest

pub flat_items : {X Y : Type 0} (f : List Id → List Y) (items : X → List Id) (groups : List X)
    → flat_map (λ group. f (items group)) groups ≡ flat_map f (map items groups)
flat_items f items [] = refl
flat_items f items (group ∷ groups) = ap (λ ys. f (items group) ++ ys) (flat_items f items groups)

-- one more
pub flat_more : {X Y : Type 0} (f : X → List Y) (xs : List X) (i : ℕ) (x : X) → i < length xs → x ≡ get_or xs i x
    → flat_map f (take i xs) ++ f x ≡ flat_map f (take (i + 1) xs)
flat_more f xs i x below at =
    ap (λ ys. flat_map f (take i xs) ++ ys) (sym (append-nil (f x)))
    ∙ sym (flat_map-append f (take i xs) (x ∷ []))
    ∙ ap (flat_map f) (sym (take_more xs i x below ∙ ap (λ y. take i xs ++ y ∷ []) (sym at)))

-- ---- who depends on whom

module _ (r : Restoring) (is_zone : IsZone r.zone) (listed : Id → Bool) where
  -- none outside the list supplies it just where all that supply it are listed
  pub listed_outside : (z : Id) → list_all listed (suppliers r.zone z) ≡ true
      ↔ IsFalse (is_supplied_outside r listed z)
  listed_outside z = (
    λ all. not-true (is_supplied_outside r listed z) (turned (is_supplied_outside r listed z) (none all)),
    to,
  )
    where
      turned : (b : Bool) → (b ≡ true → ⊥) → not b ≡ true
      turned true lacks = absurd (lacks refl)
      turned false lacks = refl

      none : list_all listed (suppliers r.zone z) ≡ true → is_supplied_outside r listed z ≡ true → ⊥
      none all on =
          let a = Any-from_list_any (λ p. not (listed p) && supplies r.zone p z) (applied_ids r.zone) on in
          let parts = and_parts (not (listed a.1)) (supplies r.zone a.1 z) a.4 in
          true≢false (sym (passes_all listed (suppliers r.zone z) a.1 all ((supplier_is r.zone a.1 z).1 parts.1))
          ∙ not-true (listed a.1) parts.0)

      to : IsFalse (is_supplied_outside r listed z) → list_all listed (suppliers r.zone z) ≡ true
      to off = all_pass listed (suppliers r.zone z) (λ x h. by x h (listed x) refl)
        where
          by : (x : Id) → Contains (suppliers r.zone z) x → (b : Bool) → listed x ≡ b → listed x ≡ true
          by x h true e = e
          by x h false e =
              let on = (supplier_is r.zone x z).0 h in
              let applied = (and_parts (is_applied r.zone x) (bytes_eq x z || is_in (supby_of r.zone z) x) on).0 in
              let there = (applied_are r.zone is_zone x).1 applied in
              absurd (true≢false (sym (list_any-from_Any (λ p. not (listed p) && supplies r.zone p z)
              (applied_ids r.zone) (there.0, x, there.1, there.2, rw (e, on) refl)) ∙ off))

  abbrev groups : Id → List (List Id)
  groups y = dependences_of r y

  abbrev ids : Id → List Id
  ids y = binding_ids r.choice r.zone (is_applied r.zone) y

  abbrev by_requisites : Id → List (List Id)
  by_requisites y = map (suppliers r.zone) (ids y)

  abbrev by_function : Id → List (List Id)
  by_function y = map (λ f. filter (is_applied r.zone) (f ∷ [])) (at_most_one (fmid_of r.choice y))

  abbrev Depends : Id → Id → Type 0
  Depends x y = (fmid_of r.choice y ≡ Some x)
      ⊎ Any (λ z. IsTrue (supplies r.zone x z) × IsFalse (is_supplied_outside r listed z)) (ids y)

  -- a member of such a group, which is listed as a whole
  pub depends_from : (x y : Id) → Contains (all_within listed (groups y)) x → Depends x y
  depends_from x y h =
      let m = flat_in (λ group. group) (filter (list_all listed) (groups y)) x h in
      let kept = filter_in (list_all listed) (groups y) m.0 m.1 in
      elim (Contains-append_cases (by_requisites y) (by_function y) m.0 kept.0) [
        | inl requisite ↦
            let p = map_in (suppliers r.zone) (ids y) m.0 requisite in
            inr (
              p.1.0,
              p.0,
              p.1.1,
              p.1.2,
              (
                (supplier_is r.zone x p.0).0 (subst (λ l. Contains l x) (sym p.2) m.2),
                (listed_outside p.0).0 (subst (λ l. list_all listed l ≡ true) (sym p.2) kept.1),
              ),
            )
        | inr function ↦
            let p = map_in (λ f. filter (is_applied r.zone) (f ∷ [])) (at_most_one (fmid_of r.choice y)) m.0 function in
            let own = filter_in (is_applied r.zone) (p.0 ∷ []) x (subst (λ l. Contains l x) (sym p.2) m.2) in
            elim (here_or p.0 [] x own.0) [
              | inl same ↦ inl (some_in (fmid_of r.choice y) p.0 p.1 ∙ ap Some same)
              | inr later ↦ absurd (none_in x later)
            ]
      ]

  pub within : (x y : Id) (group : List Id) → Contains (groups y) group → list_all listed group ≡ true
      → Contains group x → Contains (all_within listed (groups y)) x
  within x y group there all own =
      in_flat (λ g. g) (filter (list_all listed) (groups y)) group x
      (in_filter (list_all listed) (groups y) group there all) own

  pub member_applied : (x y : Id) (group : List Id) → Contains (groups y) group → Contains group x
      → IsTrue (is_applied r.zone x)
  member_applied x y group there own = elim (Contains-append_cases (by_requisites y) (by_function y) group there) [
    | inl requisite ↦
        let p = map_in (suppliers r.zone) (ids y) group requisite in
        (filter_in (is_applied r.zone) (p.0 ∷ supby_of r.zone p.0) x (subst (λ l. Contains l x) (sym p.2) own)).1
    | inr function ↦
        let p = map_in (λ f. filter (is_applied r.zone) (f ∷ [])) (at_most_one (fmid_of r.choice y)) group function in
        (filter_in (is_applied r.zone) (p.0 ∷ []) x (subst (λ l. Contains l x) (sym p.2) own)).1
  ]

  -- an applied SYSMOD of the list
  pub depends_to : (x y : Id) → IsTrue (is_applied r.zone x) → IsTrue (listed x) → Depends x y
      → Contains (all_within listed (groups y)) x
  depends_to x y applied on h = elim h [
    | inl function ↦
        let group : List Id = filter (is_applied r.zone) (x ∷ []) in
        within x y group
        (Contains-append_right (by_requisites y) (by_function y) group
        (in_map (λ f. filter (is_applied r.zone) (f ∷ [])) (at_most_one (fmid_of r.choice y)) x
        (in_some (fmid_of r.choice y) x function)))
        (all_pass listed group (λ v of. elim (here_or x [] v (filter_in (is_applied r.zone) (x ∷ []) v of).0) [
          | inl same ↦ subst (λ w. listed w ≡ true) same on
          | inr later ↦ absurd (none_in v later)
        ]))
        (in_filter (is_applied r.zone) (x ∷ []) x (here x []) applied)
    | inr a ↦
        let z = a.1 in
        within x y (suppliers r.zone z)
        (Contains-append_left (by_requisites y) (by_function y) (suppliers r.zone z)
        (in_map (suppliers r.zone) (ids y) z (a.0, a.2, a.3)))
        ((listed_outside z).1 a.4.1) ((supplier_is r.zone x z).1 a.4.0)
  ]

  -- all pairs
  pub dependents_are : (x y : Id) → y ≢ x → IsTrue (is_applied r.zone x) → IsTrue (listed x)
      → Contains {X = Pair} (flat_map (dependents r listed) (applied_ids r.zone)) (x, y) ↔ NeedsDep r listed x y
  dependents_are x y other applied on = (
    λ h.
        let m = flat_in (dependents r listed) (applied_ids r.zone) (x, y) h in
        let v = map_in (λ (w : Id). (w, m.0)) (all_within listed (groups m.0)) (x, y) m.2 in
        let first : v.0 ≡ x = ap (λ (p : Pair). p.0) v.2 in
        let second : m.0 ≡ y = ap (λ (p : Pair). p.1) v.2 in
        record {
          other = other;
          applied = (applied_are r.zone is_zone y).0 (subst (Contains (applied_ids r.zone)) second m.1);
          depends = depends_from x y (subst (λ w. Contains (all_within listed (groups w)) x) second
              (subst (Contains (all_within listed (groups m.0))) first v.1));
        },
    λ n. in_flat (dependents r listed) (applied_ids r.zone) y (x, y) ((applied_are r.zone is_zone y).1 n.applied)
        (in_map (λ (w : Id). (w, y)) (all_within listed (groups y)) x (depends_to x y applied on n.depends)),
  )
