-- A list in another order: where one rises by a key, the other rises once it is sorted.
use Rattle.std.proofs.Common.{◌≡◌, inl, inr, ℕ, zero, suc, ◌+◌, ◌<◌, ◌≤◌, true, false, cond, List, [], ◌∷◌, length}
use Rattle.std.proofs.Common.{get_or, IsPermutation, arith, refl, sym, ap, ◌∙◌}
use Rattle.std.specs.Prelude.{All, sum_by}
use Rattle.std.specs.List.Sorted.{IsSortedByKey}
use Rattle.std.specs.declared.cmp.Ordering.{Ordering}
use Rattle.std.specs.declared.cmp.Ordering.TheVariants.{Less, Equal}
use Rattle.std.specs.Ordering.{is_lt, is_eq, ordering_reverse}
use Rattle.std.specs.Cmp.{IsTotalOrder}
use Rattle.std.proofs.lemmas.Bool.{cases_Bool}
use Rattle.std.proofs.lemmas.Cmp.{tied_itself}
use Rattle.std.proofs.lemmas.List.Elements.{All-head, All-tail}
use Rattle.std.proofs.lemmas.List.Recursion.{is_sum_by}
use Rattle.std.proofs.lemmas.List.Sorted.{sum_by-IsPermutation, sorted_far, ranks_by}
use Rattle.terms.proofs.Orderings.{Equal_from_is_eq, is_lt_from_turned, Less_from_is_lt}
use Rattle.terms.specs.Rising.{Rises}
use Rattle.terms.proofs.Pairs.{AllPairs_first, AllPairs_rest}

module _ {X K : Type 0} {R : K → K → Ordering} (o : IsTotalOrder R) (key : X → K) where
  abbrev weight : K → X → ℕ
  weight k x = cond (is_eq (R (key x) k)) 1 0

  -- how many items have the key
  count : K → List X → ℕ
  count k [] = 0
  count k (x ∷ xs) = weight k x + count k xs

  same_count : (k : K) (xs ys : List X) → IsPermutation xs ys → count k ys ≡ count k xs
  unfolding count
  same_count k xs ys same =
      let sums : (zs : List X) → count k zs ≡ sum_by (weight k) zs = is_sum_by (count k) (weight k) refl (λ x zs. refl)
      in
      sums ys ∙ sum_by-IsPermutation (weight k) xs ys same ∙ sym (sums xs)

  none_behind : (k : K) (x : X) (xs : List X) → All (λ y. is_lt (R (key x) (key y)) ≡ true) xs → R (key x) k ≡ Equal
      → count k xs ≡ 0
  unfolding count
  none_behind k x [] low tie = refl
  none_behind k x (y ∷ ys) low tie =
      let less : R (key x) (key y) ≡ Less = Less_from_is_lt _
      (All-head (λ z. is_lt (R (key x) (key z)) ≡ true) y ys low) in
      let above : R k (key y) ≡ Less = sym (o.congr (key x) k (key y) tie) ∙ less in
      let other : is_eq (R (key y) k) ≡ false = ap is_eq (o.antisymm (key y) k ∙ ap ordering_reverse above) in
      let later = none_behind k x ys (All-tail (λ z. is_lt (R (key x) (key z)) ≡ true) y ys low) tie in
      rw other (omega (arith, later))

  one_at_most : (k : K) (xs : List X) → Rises R key xs → count k xs ≤ 1
  unfolding count
  one_at_most k [] rises = omega arith
  one_at_most k (x ∷ xs) rises = elim (cases_Bool (is_eq (R (key x) k))) [
    | inl e ↦
        let none = none_behind k x xs (AllPairs_first (λ a b. is_lt (R (key a) (key b)) ≡ true) x xs rises)
        (Equal_from_is_eq _ e) in
        rw (e, none) (omega arith)
    | inr e ↦
        let later = one_at_most k xs (AllPairs_rest (λ a b. is_lt (R (key a) (key b)) ≡ true) x xs rises) in
        rw e (omega (arith, later))
  ]

  one_at_least : (k : K) (xs : List X) (i : ℕ) (d : X) → i < length xs → R (key (get_or xs i d)) k ≡ Equal
      → 1 ≤ count k xs
  unfolding count
  one_at_least k [] i d within tie = absurd (omega (arith, within))
  one_at_least k (x ∷ xs) zero d within tie = rw tie (omega arith)
  one_at_least k (x ∷ xs) (suc i) d within tie = let later = one_at_least k xs i d (omega (arith, within)) tie
      in omega (arith, later)

  two_at_least : (k : K) (xs : List X) (i j : ℕ) (d : X) → i < j → j < length xs → R (key (get_or xs i d)) k ≡ Equal
      → R (key (get_or xs j d)) k ≡ Equal → 2 ≤ count k xs
  unfolding count
  two_at_least k [] i j d less within p q = absurd (omega (arith, within))
  two_at_least k (x ∷ xs) i zero d less within p q = absurd (omega (arith, less))
  two_at_least k (x ∷ xs) zero (suc j) d less within p q = let later = one_at_least k xs j d (omega (arith, within)) q
      in rw p (omega (arith, later))
  two_at_least k (x ∷ xs) (suc i) (suc j) d less within p q = let later =
      two_at_least k xs i j d (omega (arith, less)) (omega (arith, within)) p q in omega (arith, later)

  -- the sorted list of what rises in some order rises
  pub rises_sorted : (xs ys : List X) → IsPermutation xs ys → IsSortedByKey key R xs → Rises R key ys → Rises R key xs
  rises_sorted xs ys same sorted rises = λ i j d less within.
      let a = key (get_or xs i d) in
      let b = key (get_or xs j d) in
      let far : is_lt (R b a) ≡ false = sorted_far (λ x y. is_lt (R (key x) (key y))) (ranks_by o key) xs sorted i j d
      (omega (arith, less)) within in
      is_lt_from_turned (R a b) (R b a) (o.antisymm a b) far (λ tie.
      let two = two_at_least b xs i j d less within tie (tied_itself o b) in
      let one = one_at_most b ys rises in
      absurd (omega (arith, two, one, same_count b xs ys same)))
