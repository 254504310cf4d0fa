-- An item takes its place in a list that rises by a key, or leaves it: the list rises still.
use Rattle.std.proofs.Common.{◌≡◌, true, List, [], ◌∷◌, ◌++◌, get_or, sym, ap, ◌∙◌, arith, append_assoc}
use Rattle.std.specs.Prelude.{All}
use Rattle.std.specs.declared.cmp.Ordering.{Ordering}
use Rattle.std.specs.declared.cmp.Ordering.TheVariants.{Less, Equal}
use Rattle.std.specs.Ordering.{is_lt}
use Rattle.std.specs.Cmp.{IsTotalOrder}
use Rattle.std.proofs.lemmas.Cmp.{alike_right}
use Rattle.std.proofs.lemmas.List.Elements.{All-head, All-tail, All-cons, All-append, All-filter, filter_passes}
use Rattle.std.proofs.lemmas.List.Elements.{filter_agree}
use Rattle.std.proofs.lemmas.List.Kept.{AllPairs-filter, AllPairs-cons}
use Rattle.terms.proofs.Orderings.{Less_from_is_lt}
use Rattle.terms.proofs.Pairs.{AllPairs_first, AllPairs_rest, AllPairs_between}
use Rattle.terms.specs.Rising.{Rises, before, behind, with_item, without_key, Splits}

module _ {X K : Type 0} {R : K → K → Ordering} (o : IsTotalOrder R) (key : X → K) where
  -- what stands before a key and behind it, cut by the key
  pub Splits_cut : (k : K) (xs : List X) → Splits R key k (before R key k xs) (behind R key k xs)
  Splits_cut k xs = record {
    low = λ i d h. Less_from_is_lt (R (key (get_or (before R key k xs) i d)) k)
        (filter_passes (λ x. is_lt (R (key x) k)) xs i d h);
    high = λ i d h. Less_from_is_lt (R k (key (get_or (behind R key k xs) i d)))
        (filter_passes (λ x. is_lt (R k (key x))) xs i d h);
  }

  -- and by a key that ties with it
  pub Splits_tied : (k l : K) (front back : List X) → R k l ≡ Equal → Splits R key k front back
      → Splits R key l front back
  Splits_tied k l front back e s = record {
    low = λ i d h. sym (alike_right o k l (key (get_or front i d)) e) ∙ s.low i d h;
    high = λ i d h. sym (o.congr k l (key (get_or back i d)) e) ∙ s.high i d h;
  }

  -- two lists in order around a key
  AllPairs_joined : (k : K) (front back : List X) → Rises R key front → Rises R key back → Splits R key k front back
      → Rises R key (front ++ back)
  AllPairs_joined k [] back low high s = high
  AllPairs_joined k (x ∷ front) back low high s =
      let T : X → X → Type 0 = λ a b. is_lt (R (key a) (key b)) ≡ true in
      let first = All-head (λ y. R (key y) k ≡ Less) x front s.low in
      let rest = AllPairs_joined k front back (AllPairs_rest T x front low) high
      record { low = All-tail (λ y. R (key y) k ≡ Less) x front s.low; high = s.high } in
      AllPairs-cons T x (front ++ back) (All-append (T x) front back (AllPairs_first T x front low)
      (λ i d h. ap is_lt (o.trans (key x) k (key (get_or back i d)) first (s.high i d h)))) rest

  pub Rises_without_key : (xs : List X) (k : K) → Rises R key xs → Rises R key (without_key R key xs k)
  Rises_without_key xs k rises =
      let T : X → X → Type 0 = λ a b. is_lt (R (key a) (key b)) ≡ true in
      AllPairs_joined k (before R key k xs) (behind R key k xs) (AllPairs-filter T (λ x. is_lt (R (key x) k)) xs rises)
      (AllPairs-filter T (λ x. is_lt (R k (key x))) xs rises) (Splits_cut k xs)

  pub Rises_with_item : (xs : List X) (x : X) → Rises R key xs → Rises R key (with_item R key xs x)
  Rises_with_item xs x rises =
      let s = Splits_cut (key x) xs in
      let T : X → X → Type 0 = λ a b. is_lt (R (key a) (key b)) ≡ true in
      rw (append_assoc (before R key (key x) xs) (x ∷ []) (behind R key (key x) xs))
      (AllPairs_between T (before R key (key x) xs) (behind R key (key x) xs) x (Rises_without_key xs (key x) rises)
      (λ i d h. ap is_lt (s.low i d h)) (λ i d h. ap is_lt (s.high i d h)))

-- a fact of all items and of one more
pub All_with_item : {X K : Type 0} (R : K → K → Ordering) (key : X → K) (P : X → Type 0) (xs : List X) (x : X)
    → All P xs → P x → All P (with_item R key xs x)
All_with_item R key P xs x all one =
    All-append P (before R key (key x) xs ++ x ∷ []) (behind R key (key x) xs)
    (All-append P (before R key (key x) xs) (x ∷ []) (All-filter (λ y. is_lt (R (key y) (key x))) P xs all)
    (All-cons P x [] one (λ i d h. absurd (omega arith)))) (All-filter (λ y. is_lt (R (key x) (key y))) P xs all)

-- orders and tests that answer alike
pub with_item_agree : {X K : Type 0} (R S : K → K → Ordering) → ((a b : K) → R a b ≡ S a b)
    → (key : X → K) (xs : List X) (x : X) → with_item R key xs x ≡ with_item S key xs x
with_item_agree R S same key xs x =
    ap (λ ys. (ys ++ x ∷ []) ++ behind R key (key x) xs) (filter_agree (λ y. is_lt (R (key y) (key x)))
    (λ y. is_lt (S (key y) (key x))) (λ y. ap is_lt (same (key y) (key x))) xs)
    ∙ ap (λ ys. (before S key (key x) xs ++ x ∷ []) ++ ys) (filter_agree (λ y. is_lt (R (key x) (key y)))
    (λ y. is_lt (S (key x) (key y))) (λ y. ap is_lt (same (key x) (key y))) xs)

pub without_key_agree : {X K : Type 0} (R S : K → K → Ordering) → ((a b : K) → R a b ≡ S a b)
    → (key : X → K) (xs : List X) (k : K) → without_key R key xs k ≡ without_key S key xs k
without_key_agree R S same key xs k =
    ap (λ ys. ys ++ behind R key k xs) (filter_agree (λ y. is_lt (R (key y) k)) (λ y. is_lt (S (key y) k))
    (λ y. ap is_lt (same (key y) k)) xs)
    ∙ ap (λ ys. before S key k xs ++ ys) (filter_agree (λ y. is_lt (R k (key y))) (λ y. is_lt (S k (key y)))
    (λ y. ap is_lt (same k (key y))) xs)
