-- What lists by keys hold, in any order, as they grow.
use Rattle.std.proofs.Common.{◌≡◌, ◌∙◌, ◌⊎◌, inl, inr, ℕ, ◌<◌, ◌+◌, Bool, true, false, List, [], ◌∷◌, ◌++◌, length}
use Rattle.std.proofs.Common.{take, get_or, refl, sym, ap, subst, cond, Contains, true≢false}
use Rattle.std.specs.Prelude.{◌↔◌}
use Rattle.std.specs.declared.cmp.Ordering.{Ordering}
use Rattle.std.specs.Map.{lookup}
use Rattle.std.specs.Option.{option_map_or}
use Rattle.std.specs.Ordering.{is_eq}
use Rattle.std.specs.Cmp.{IsTotalOrder}
use Rattle.std.specs.BTreeMap.{IsEmpty, is_at}
use Rattle.std.proofs.lemmas.Cmp.{tied_itself}
use Rattle.std.proofs.lemmas.List.Elements.{Contains-append_left, Contains-append_right, Contains-append_cases}
use Rattle.std.proofs.lemmas.List.Elements.{Contains-push, Contains-push_cases}
use Rattle.std.proofs.lemmas.Map.Lookups.{CmpEqualImpliesEq}
use Rattle.terms.proofs.ListMembers.{here, none_in, flat_in, in_flat}
use Rattle.terms.proofs.Lists.{front_more}
use Rattle.terms.proofs.Orderings.{Equal_from_is_eq}
use Rattle.sorted.specs.MultiMap.{MultiMap, listed, Adds, AddsToAll, once_each, Gains, Holds, OneOf}

itself : {K : Type 0} (cmp : K → K → Ordering) → IsTotalOrder cmp → (k : K) → is_eq (cmp k k) ≡ true
itself cmp o k = ap is_eq (tied_itself o k)

same_key : {K : Type 0} (cmp : K → K → Ordering) → CmpEqualImpliesEq cmp → (k q : K) → is_eq (cmp k q) ≡ true → k ≡ q
same_key cmp exact k q e = exact k q (Equal_from_is_eq (cmp k q) e)

module _ {K V : Type 0} (cmp : K → K → Ordering) where
  pub gains_alike : (old new : MultiMap K V) (P Q : K → V → Type 0) → ((k : K) (y : V) → P k y ↔ Q k y)
      → Gains cmp old new P → Gains cmp old new Q
  gains_alike old new P Q same gains k y = (
    λ h. elim ((gains k y).0 h) [ inl was ↦ inl was | inr p ↦ inr ((same k y).0 p) ],
    λ h. (gains k y).1 (elim h [ inl was ↦ inl was | inr q ↦ inr ((same k y).1 q) ]),
  )

  pub gains_nothing : (all : MultiMap K V) (P : K → V → Type 0) → ((k : K) (y : V) → ¬ P k y) → Gains cmp all all P
  gains_nothing all P none k y = (λ h. inl h, λ h. elim h [ inl was ↦ was | inr p ↦ absurd (none k y p) ])

  pub gains_join : (old middle new : MultiMap K V) (P Q R : K → V → Type 0) → Gains cmp old middle P
      → Gains cmp middle new Q → ((k : K) (y : V) → R k y ↔ (P k y ⊎ Q k y)) → Gains cmp old new R
  gains_join old middle new P Q R first second both k y = (
    λ h. elim ((second k y).0 h) [
      | inl between ↦ elim ((first k y).0 between) [ inl was ↦ inl was | inr p ↦ inr ((both k y).1 (inl p)) ]
      | inr q ↦ inr ((both k y).1 (inr q))
    ],
    λ h. (second k y).1 (elim h [
      | inl was ↦ inl ((first k y).1 (inl was))
      | inr r ↦ elim ((both k y).0 r) [ inl p ↦ inl ((first k y).1 (inr p)) | inr q ↦ inr q ]
    ]),
  )

  -- what empty lists have gained is all that they hold
  pub holds_gained : (old new : MultiMap K V) (P : K → V → Type 0) → IsEmpty old → Gains cmp old new P → Holds cmp new P
  holds_gained old new P empty gains k y = (
    λ h. elim ((gains k y).0 h) [
      | inl was ↦ absurd (none_in y (subst (λ es. Contains (option_map_or (λ v. v.items) (lookup (is_at (cmp k)) es) [])
          y) empty was))
      | inr p ↦ p
    ],
    λ h. (gains k y).1 (inr h),
  )

  module _ {X : Type 0} (More : X → K → V → Type 0) where
    one_of_none : (k : K) (y : V) → ¬ OneOf [] More k y
    one_of_none k y h = none_in h.0 h.1

    one_of_more : (front : List X) (x : X) (k : K) (y : V)
        → OneOf (front ++ x ∷ []) More k y ↔ (OneOf front More k y ⊎ More x k y)
    one_of_more front x k y = (
      λ h. elim (Contains-push_cases front x h.0 h.1) [
        | inl was ↦ inl (h.0, was, h.2)
        | inr is ↦ inr (subst (λ z. More z k y) (sym is) h.2)
      ],
      λ h. elim h [
        | inl was ↦ (was.0, Contains-append_left front (x ∷ []) was.0 was.1, was.2)
        | inr is ↦ (x, Contains-push front x, is)
      ],
    )

    -- by none of a list
    pub gains_none : (all : MultiMap K V) → Gains cmp all all (OneOf [] More)
    gains_none all = gains_nothing all (OneOf [] More) one_of_none

    -- by one item more
    pub gains_more : (old middle new : MultiMap K V) (front : List X) (x : X) → Gains cmp old middle (OneOf front More)
        → Gains cmp middle new (More x) → Gains cmp old new (OneOf (front ++ x ∷ []) More)
    gains_more old middle new front x first second =
        gains_join old middle new (OneOf front More) (More x) (OneOf (front ++ x ∷ []) More) first second
        (one_of_more front x)

    -- by the next of a list, as a loop goes over it
    pub gains_next : (old middle new : MultiMap K V) (xs : List X) (i : ℕ) (x : X) → i < length xs → x ≡ get_or xs i x
        → Gains cmp old middle (OneOf (take i xs) More) → Gains cmp middle new (More x)
        → Gains cmp old new (OneOf (take (i + 1) xs) More)
    gains_next old middle new xs i x below at first second =
        subst (λ l. Gains cmp old new (OneOf l More)) (sym (front_more xs i x below at))
        (gains_more old middle new (take i xs) x first second)

    -- the same of empty lists that grow
    pub holds_none : (all : MultiMap K V) → IsEmpty all → Holds cmp all (OneOf [] More)
    holds_none all empty = holds_gained all all (OneOf [] More) empty (gains_none all)

    pub holds_next : (old new : MultiMap K V) (xs : List X) (i : ℕ) (x : X) → i < length xs → x ≡ get_or xs i x
        → Holds cmp old (OneOf (take i xs) More) → Gains cmp old new (More x)
        → Holds cmp new (OneOf (take (i + 1) xs) More)
    holds_next old new xs i x below at holds gains =
        subst (λ l. Holds cmp new (OneOf l More)) (sym (front_more xs i x below at)) (λ k y. (
          λ h. (one_of_more (take i xs) x k y).1 (elim ((gains k y).0 h) [
            | inl was ↦ inl ((holds k y).0 was)
            | inr more ↦ inr more
          ]),
          λ h. (gains k y).1 (elim ((one_of_more (take i xs) x k y).0 h) [
            | inl was ↦ inl ((holds k y).1 was)
            | inr more ↦ inr more
          ]),
        ))

  -- where the order ties no two keys
  module _ (o : IsTotalOrder cmp) (exact : CmpEqualImpliesEq cmp) where
    -- x stands once for each of the keys
    in_once_each : (ks : List K) (x : V) (q : K) (y : V)
        → Contains (once_each cmp ks x q) y ↔ (Contains ks q × (y ≡ x))
    in_once_each ks x q y = (
      λ h. let one = flat_in (λ k. cond (is_eq (cmp k q)) (x ∷ []) []) ks y h in
          from one.0 one.1 (is_eq (cmp one.0 q)) refl one.2,
      λ h. in_flat (λ k. cond (is_eq (cmp k q)) (x ∷ []) []) ks q y h.0
          (subst (λ b. Contains (cond b (x ∷ []) []) y) (sym (itself cmp o q)) (subst (Contains (x ∷ [])) (sym h.1) (here x []))),
    )
      where
        from : (k : K) → Contains ks k → (b : Bool) → is_eq (cmp k q) ≡ b
            → Contains (cond (is_eq (cmp k q)) (x ∷ []) []) y → Contains ks q × (y ≡ x)
        from k there true e h = (
          subst (Contains ks) (same_key cmp exact k q e) there,
          elim (Contains-push_cases [] x y (subst (λ b. Contains (cond b (x ∷ []) []) y) e h)) [
            | inl nothing ↦ absurd (none_in y nothing)
            | inr is ↦ sym is
          ],
        )
        from k there false e h = absurd (none_in y (subst (λ b. Contains (cond b (x ∷ []) []) y) e h))

    pub gains_to_all : (old new : MultiMap K V) (ks : List K) (x : V) → AddsToAll cmp ks x old new
        → Gains cmp old new (λ k y. Contains ks k × (y ≡ x))
    gains_to_all old new ks x adds q y = (
      λ h. elim (Contains-append_cases (listed cmp old q) (once_each cmp ks x q) y
          (subst (λ l. Contains l y) (adds.list q) h)) [
            | inl was ↦ inl was
            | inr more ↦ inr ((in_once_each ks x q y).0 more)
          ],
      λ h. subst (λ l. Contains l y) (sym (adds.list q)) (elim h [
        | inl was ↦ Contains-append_left (listed cmp old q) (once_each cmp ks x q) y was
        | inr more ↦ Contains-append_right (listed cmp old q) (once_each cmp ks x q) y
            ((in_once_each ks x q y).1 more)
      ]),
    )

    pub gains_one : (old new : MultiMap K V) (k : K) (x : V) → Adds cmp k x old new
        → Gains cmp old new (λ q y. (q ≡ k) × (y ≡ x))
    gains_one old new k x adds q y = by (is_eq (cmp k q)) refl
      where
        now : (b : Bool) → is_eq (cmp k q) ≡ b
            → listed cmp new q ≡ cond b (listed cmp old q ++ x ∷ []) (listed cmp old q)
        now b e = adds.list q ∙ ap (λ c. cond c (listed cmp old q ++ x ∷ []) (listed cmp old q)) e

        by : (b : Bool) → is_eq (cmp k q) ≡ b
            → Contains (listed cmp new q) y ↔ (Contains (listed cmp old q) y ⊎ ((q ≡ k) × (y ≡ x)))
        by true e = (
          λ h. elim (Contains-push_cases (listed cmp old q) x y (subst (λ l. Contains l y) (now true e) h)) [
            | inl was ↦ inl was
            | inr last ↦ inr (sym (same_key cmp exact k q e), sym last)
          ],
          λ h. subst (λ l. Contains l y) (sym (now true e)) (elim h [
            | inl was ↦ Contains-append_left (listed cmp old q) (x ∷ []) y was
            | inr both ↦ subst (Contains (listed cmp old q ++ x ∷ [])) (sym both.1) (Contains-push (listed cmp old q) x)
          ]),
        )
        by false e = (
          λ h. inl (subst (λ l. Contains l y) (now false e) h),
          λ h. subst (λ l. Contains l y) (sym (now false e)) (elim h [
            | inl was ↦ was
            | inr both ↦ absurd (true≢false (sym (subst (λ v. is_eq (cmp k v) ≡ true) (sym both.0) (itself cmp o k)) ∙ e))
          ]),
        )
