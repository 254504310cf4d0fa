-- Lists in the order of over, each later id over each earlier one.
use Rattle.std.proofs.Common.{◌≡◌, ◌<◌, ◌≤◌, ◌-◌, ◌+◌, ◌⊎◌, inl, inr, ℕ, zero, suc, List, [], ◌∷◌, ◌++◌, length, take}
use Rattle.std.proofs.Common.{get_or, drop}
use Rattle.std.proofs.Common.{IsPermutation, Contains, AllPairs, All, sym, ap, ◌∙◌, subst, arith}
use Rattle.std.specs.List.{insert}
use Rattle.std.proofs.Math.Seq.{drop-cons}
use Rattle.std.proofs.lemmas.Bool.{cases_lt}
use Rattle.std.proofs.lemmas.List.{take-append-drop, take_more, get_or-take, length-take-le, get_or_default}
use Rattle.std.proofs.lemmas.List.Elements.{Contains-append_right, Contains-get_or, All-cons, All-contains}
use Rattle.std.proofs.lemmas.List.Sorted.{Contains-permutation, IsPermutation-sym, IsPermutation-insert}
use Rattle.std.proofs.lemmas.List.Sorted.{IsPermutation-push_more}
use Rattle.terms.proofs.Pairs.{AllPairs_between, AllPairs_parts, AllPairs_rest}
use Rattle.terms.specs.Types.{Id}
use Rattle.terms.specs.Choice.{Choice}
use Rattle.terms.specs.Over.{IsOver, names}
use Rattle.terms.proofs.Leads.{reaches_through}

-- each of those so far has the relation to the next one
pub newest : {X : Type 0} (R : X → X → Type 0) (xs : List X) (k : ℕ) (x : X) → AllPairs R xs → k < length xs
    → x ≡ get_or xs k x → (y : X) → Contains (take k xs) y → R y x
newest R xs k x pairs below is y m =
    let split : xs ≡ take k xs ++ get_or xs k x ∷ drop (suc k) xs =
    sym (take-append-drop k xs) ∙ ap (λ ys. take k xs ++ ys) (drop-cons xs k x below) in
    let sides = AllPairs_parts R (take k xs) (drop (suc k) xs) (get_or xs k x) (subst (AllPairs R) split pairs) in
    subst (R y) (sym is) (All-contains (λ z. R z (get_or xs k x)) (take k xs) y sides.0 m)

-- a back of a list in order
pub pairs_drop : {X : Type 0} (R : X → X → Type 0) (n : ℕ) (xs : List X) → AllPairs R xs → AllPairs R (drop n xs)
pairs_drop R zero xs pairs = pairs
pairs_drop R (suc n) [] pairs = pairs
pairs_drop R (suc n) (x ∷ xs) pairs = pairs_drop R n xs (AllPairs_rest R x xs pairs)

module _ (c : Choice) where
  -- what is over the last id of a front is over all of it
  over_front : (xs : List Id) (p : ℕ) (x : Id) → AllPairs (λ y z. IsOver c z y) xs → p ≤ length xs
      → (0 < p → IsOver c x (get_or xs (p - 1) x)) → All (λ y. IsOver c x y) (take p xs)
  over_front xs p x order within last j d below =
      let len = length-take-le p xs within in
      let before : j < p = omega (arith, below, len) in
      let end : p - 1 < length xs = omega (arith, before, within) in
      let top : IsOver c x (get_or xs (p - 1) d) =
      subst (IsOver c x) (get_or_default xs (p - 1) x d end) (last (omega (arith, before))) in
      subst (IsOver c x) (sym (get_or-take p xs j d before))
      (elim (cases_lt j (p - 1)) [
        | inl less ↦ reaches_through (names c) x (get_or xs (p - 1) d) (get_or xs j d) top
            (order j (p - 1) d less end)
        | inr more ↦
            let same : p - 1 ≡ j = omega (arith, before, more) in
            subst (λ k. IsOver c x (get_or xs k d)) same top
      ])

  -- what is not over one of them is over none behind it
  pub back_from : (xs : List Id) (m : ℕ) (x : Id) → AllPairs (λ y z. IsOver c z y) xs → m < length xs
      → (¬ IsOver c x (get_or xs m x)) → All (λ y. ¬ IsOver c x y) (drop m xs)
  back_from xs m x order below none =
      subst (All (λ y. ¬ IsOver c x y)) (sym (drop-cons xs m x below))
      (All-cons (λ y. ¬ IsOver c x y) (get_or xs m x) (drop (suc m) xs) none
      (λ j d behind over. none (reaches_through (names c) x (get_or (drop (suc m) xs) j d) (get_or xs m x) over
      (All-contains (λ y. IsOver c y (get_or xs m x)) (drop (suc m) xs) (get_or (drop (suc m) xs) j d) sides
      (Contains-get_or (drop (suc m) xs) j d behind)))))
    where
      sides : All (λ y. IsOver c y (get_or xs m x)) (drop (suc m) xs)
      sides = (AllPairs_parts (λ y z. IsOver c z y) (take m xs) (drop (suc m) xs) (get_or xs m x)
          (subst (AllPairs (λ y z. IsOver c z y))
          (sym (take-append-drop m xs) ∙ ap (λ ys. take m xs ++ ys) (drop-cons xs m x below)) order)).1

  -- of those that it is not over, each is over it
  over_back : (xs : List Id) (p : ℕ) (x : Id) → ((y : Id) → Contains xs y → IsOver c y x ⊎ IsOver c x y)
      → All (λ y. ¬ IsOver c x y) (drop p xs) → All (λ y. IsOver c y x) (drop p xs)
  over_back xs p x comparable none j d below =
      let y = get_or (drop p xs) j d in
      let within : Contains xs y =
      subst (λ l. Contains l y) (take-append-drop p xs)
      (Contains-append_right (take p xs) (drop p xs) y (Contains-get_or (drop p xs) j d below)) in
      elim (comparable y within) [ inl above ↦ above | inr under ↦ absurd (none j d below under) ]

  -- an id comes in at its place
  pub ordered_more : (ids : List Id) (k : ℕ) (x : Id) (xs : List Id) (p : ℕ)
      → AllPairs (λ y z. IsOver c y z ⊎ IsOver c z y) ids → k < length ids → x ≡ get_or ids k x
      → IsPermutation (take k ids) xs → AllPairs (λ y z. IsOver c z y) xs → p ≤ length xs
      → (0 < p → IsOver c x (get_or xs (p - 1) x)) → All (λ y. ¬ IsOver c x y) (drop p xs)
      → AllPairs (λ y z. IsOver c z y) (insert xs p x)
  ordered_more ids k x xs p comparable below is same order within last none =
      AllPairs_between (λ y z. IsOver c z y) (take p xs) (drop p xs) x
      (subst (AllPairs (λ y z. IsOver c z y)) (sym (take-append-drop p xs)) order)
      (over_front xs p x order within last)
      (over_back xs p x (λ y m. newest (λ v w. IsOver c v w ⊎ IsOver c w v) ids k x comparable below is y
      (Contains-permutation xs (take k ids) y (IsPermutation-sym (take k ids) xs same) m)) none)

pub permuted_more : (ids : List Id) (k : ℕ) (x : Id) (xs : List Id) (p : ℕ) → k < length ids → x ≡ get_or ids k x
    → IsPermutation (take k ids) xs → IsPermutation (take (k + 1) ids) (insert xs p x)
permuted_more ids k x xs p below is same =
    subst (λ l. IsPermutation l (insert xs p x)) (ap (λ v. take k ids ++ v ∷ []) is ∙ sym (take_more ids k x below))
    (IsPermutation-push_more (take k ids) xs (insert xs p x) x same (IsPermutation-insert xs p x))
