-- How a list that rises by a key falls apart at a key, and stays in order when an item comes in between.
use Rattle.std.proofs.Common.{◌≡◌, ◌<◌, ◌≤◌, ◌+◌, ℕ, suc, Bool, true, false, List, [], ◌∷◌, ◌++◌, length, get_or, take}
use Rattle.std.proofs.Common.{drop, refl, sym, ap, ◌∙◌, arith, cond, length-drop, append_assoc, inl, inr, ◌-◌, set}
use Rattle.std.specs.Prelude.{All, filter, find, Some, None}
use Rattle.std.specs.List.{HoldsAt, list_any}
use Rattle.std.specs.Prelude.{Result, Ok, Err, is_ok, IfOk, IfErr}
use Rattle.std.specs.List.Sorted.{IsNonDecreasingBy, IsPartitionPoint, IsSearchInRange, IsBinarySearchResult}
use Rattle.std.specs.List.Sorted.{IsStrictlySortedBy}
use Rattle.std.proofs.lemmas.Map.Keys.{Less-from_sorted}
use Rattle.std.specs.declared.cmp.Ordering.{Ordering}
use Rattle.std.specs.declared.cmp.Ordering.TheVariants.{Less, Equal, Greater}
use Rattle.std.specs.Ordering.{is_lt, is_eq, ordering_index, ordering_reverse}
use Rattle.std.specs.Cmp.{IsTotalOrder}
use Rattle.std.proofs.lemmas.Cmp.{alike_right, tied_back}
use Rattle.std.proofs.lemmas.List.{take-append-drop, get_or-take, get_or-drop, length-take-le, append-nil}
use Rattle.std.proofs.lemmas.List.{get_or_default, set_split}
use Rattle.std.proofs.Math.Seq.{drop-cons}
use Rattle.std.proofs.lemmas.Bool.{cases_lt}
use Rattle.std.proofs.lemmas.List.Folds.{list_any_at, list_any_none}
use Rattle.std.proofs.lemmas.List.Elements.{All-append, filter-append}
use Rattle.std.proofs.lemmas.List.Sorted.{searchable_from_sorted}
use Rattle.terms.proofs.Pairs.{AllPairs_between, AllPairs_without, AllPairs_parts}
use Rattle.terms.proofs.Searches.{filter_all, filter_none, find_over}
use Rattle.terms.proofs.Orderings.{Less_from_is_lt}
use Rattle.terms.specs.Rising.{Rises, before, behind, with_item, without_key}
pub use Rattle.terms.specs.Rising.{Splits, StandsAt}

-- keys that are strictly sorted rise
pub Rises_from_sorted : {K : Type 0} (R : K → K → Ordering) (ks : List K) → IsStrictlySortedBy R ks
    → Rises R (λ k. k) ks
Rises_from_sorted R ks s = λ i j d less below. ap is_lt (Less-from_sorted R ks i j d s less below)

module _ {X K : Type 0} {R : K → K → Ordering} (o : IsTotalOrder R) (key : X → K) where
  -- of two keys one is below, or they tie
  turned : (a b : K) → R a b ≡ Less → is_lt (R b a) ≡ false
  turned a b e = rw (o.antisymm b a, e) refl

  tied : (a b : K) → R a b ≡ Equal → is_lt (R b a) ≡ false
  tied a b e = rw (tied_back o a b e) refl

  unequal : (a b : K) → R a b ≡ Less → is_eq (R b a) ≡ false
  unequal a b e = rw (o.antisymm b a, e) refl

  pub before_apart : (k : K) (front back : List X) → Splits R key k front back → before R key k (front ++ back) ≡ front
  before_apart k front back s =
      let p : X → Bool = λ x. is_lt (R (key x) k) in
      filter-append p front back
      ∙ ap (λ ys. ys ++ filter p back) (filter_all p front (λ i d h. ap is_lt (s.low i d h)))
      ∙ ap (λ ys. front ++ ys) (filter_none p back (λ i d h. turned k (key (get_or back i d)) (s.high i d h)))
      ∙ append-nil front

  pub behind_apart : (k : K) (front back : List X) → Splits R key k front back → behind R key k (front ++ back) ≡ back
  behind_apart k front back s =
      let p : X → Bool = λ x. is_lt (R k (key x)) in
      filter-append p front back
      ∙ ap (λ ys. ys ++ filter p back) (filter_none p front (λ i d h. turned (key (get_or front i d)) k (s.low i d h)))
      ∙ filter_all p back (λ i d h. ap is_lt (s.high i d h))

  pub before_around : (k : K) (front back : List X) (x : X) → Splits R key k front back → R (key x) k ≡ Equal
      → before R key k (front ++ x ∷ back) ≡ front
  before_around k front back x s e =
      let p : X → Bool = λ y. is_lt (R (key y) k) in
      filter-append p front (x ∷ back)
      ∙ ap (λ b. filter p front ++ cond b (x ∷ filter p back) (filter p back)) (ap is_lt e)
      ∙ sym (filter-append p front back) ∙ before_apart k front back s

  pub behind_around : (k : K) (front back : List X) (x : X) → Splits R key k front back → R (key x) k ≡ Equal
      → behind R key k (front ++ x ∷ back) ≡ back
  behind_around k front back x s e =
      let p : X → Bool = λ y. is_lt (R k (key y)) in
      filter-append p front (x ∷ back)
      ∙ ap (λ b. filter p front ++ cond b (x ∷ filter p back) (filter p back)) (tied (key x) k e)
      ∙ sym (filter-append p front back) ∙ behind_apart k front back s

  -- around an item of the key all others are before and behind
  pub Splits_around : (k : K) (front back : List X) (x : X) → Rises R key (front ++ x ∷ back) → R (key x) k ≡ Equal
      → Splits R key k front back
  Splits_around k front back x rises e =
      let parts = AllPairs_parts (λ a b. is_lt (R (key a) (key b)) ≡ true) front back x rises in
      record {
        low = λ i d h. sym (alike_right o (key x) k (key (get_or front i d)) e)
            ∙ Less_from_is_lt (R (key (get_or front i d)) (key x)) (parts.0 i d h);
        high = λ i d h. sym (o.congr (key x) k (key (get_or back i d)) e)
            ∙ Less_from_is_lt (R (key x) (key (get_or back i d))) (parts.1 i d h);
      }

  -- keys in order are what a binary search asks for
  pub searchable : (k : K) (xs : List X) → Rises R key xs → IsNonDecreasingBy (λ y. ordering_index (R (key y) k)) xs
  searchable k xs rises =
      searchable_from_sorted o key xs k (λ i d low below. turned (key (get_or xs i d)) (key (get_or xs (i + 1) d))
      (Less_from_is_lt (R (key (get_or xs i d)) (key (get_or xs (i + 1) d)))
      (rises i (i + 1) d (omega arith) below)))

  -- where a binary search ends without the key
  pub Splits_at : (k : K) (xs : List X) (i : ℕ) → i ≤ length xs
      → IsPartitionPoint (λ y. R (key y) k ≡ Less) (λ y. R (key y) k ≡ Greater) xs i
      → Splits R key k (take i xs) (drop i xs)
  Splits_at k xs i within p = record {
    low = λ j d h. rw (get_or-take i xs j d (omega (arith, length-take-le i xs within)))
        (p.0 j d (omega arith) (omega (arith, length-take-le i xs within)));
    high = λ j d h.
        rw (get_or-drop i xs j d) (o.antisymm k (key (get_or xs (i + j) d))
        ∙ ap ordering_reverse (p.1 (i + j) d (omega arith) (omega (arith, length-drop i xs))));
  }

  -- an item whose key is new comes in between
  pub with_item_new : (front back : List X) (x : X) → Splits R key (key x) front back
      → with_item R key (front ++ back) x ≡ front ++ x ∷ back
  with_item_new front back x s =
      ap (λ ys. (ys ++ x ∷ []) ++ behind R key (key x) (front ++ back)) (before_apart (key x) front back s)
      ∙ ap (λ ys. (front ++ x ∷ []) ++ ys) (behind_apart (key x) front back s)
      ∙ append_assoc front (x ∷ []) back

  -- an item takes the place of the one of its key
  pub with_item_there : (front back : List X) (x y : X) → Rises R key (front ++ y ∷ back) → R (key y) (key x) ≡ Equal
      → with_item R key (front ++ y ∷ back) x ≡ front ++ x ∷ back
  with_item_there front back x y rises e =
      let s = Splits_around (key x) front back y rises e in
      ap (λ ys. (ys ++ x ∷ []) ++ behind R key (key x) (front ++ y ∷ back)) (before_around (key x) front back y s e)
      ∙ ap (λ ys. (front ++ x ∷ []) ++ ys) (behind_around (key x) front back y s e)
      ∙ append_assoc front (x ∷ []) back

  -- the list stays in order with a new item
  pub Rises_between : (front back : List X) (x : X) → Rises R key (front ++ back) → Splits R key (key x) front back
      → Rises R key (front ++ x ∷ back)
  Rises_between front back x rises s =
      AllPairs_between (λ a b. is_lt (R (key a) (key b)) ≡ true) front back x rises (λ i d h. ap is_lt (s.low i d h))
      (λ i d h. ap is_lt (s.high i d h))

  -- where a binary search finds the key
  pub Stands_at : (k : K) (xs : List X) (i : ℕ) → i < length xs → HoldsAt (λ y. R (key y) k ≡ Equal) xs i
      → (x : X) × StandsAt R key k xs i x
  Stands_at k [] i below h = absurd (omega arith)
  Stands_at k (x ∷ xs) i below h = (
    get_or (x ∷ xs) i x,
    record {
      tie = h x;
      parts = sym (take-append-drop i (x ∷ xs)) ∙ ap (λ ys. take i (x ∷ xs) ++ ys) (drop-cons (x ∷ xs) i x below);
      at = λ d. get_or_default (x ∷ xs) i d x below;
    },
  )

  -- whether some item has the key, by a test that ties with the order
  pub list_any_there : (E : K → K → Bool) → ((a b : K) → E a b ≡ is_eq (R a b)) → (k : K) (xs : List X) (i : ℕ) (x : X)
      → i < length xs → StandsAt R key k xs i x → list_any (λ y. E k (key y)) xs ≡ true
  list_any_there E ties k xs i x below s =
      list_any_at (λ y. E k (key y)) xs i x below (ap (λ y. E k (key y)) (s.at x) ∙ ties k (key x)
      ∙ ap is_eq (tied_back o (key x) k s.tie))

  pub list_any_apart : (E : K → K → Bool) → ((a b : K) → E a b ≡ is_eq (R a b)) → (k : K) (front back : List X)
      → Splits R key k front back → list_any (λ y. E k (key y)) (front ++ back) ≡ false
  list_any_apart E ties k front back s =
      let low : All (λ y. E k (key y) ≡ false) front = λ i d h. ties k (key (get_or front i d))
      ∙ unequal (key (get_or front i d)) k (s.low i d h) in
      let high : All (λ y. E k (key y) ≡ false) back = λ i d h. ties k (key (get_or back i d)) ∙ ap is_eq (s.high i d h)
      in
      list_any_none (λ y. E k (key y)) (front ++ back) (All-append (λ y. E k (key y) ≡ false) front back low high)

  -- whether a binary search finds the key
  pub is_ok_search : (E : K → K → Bool) → ((a b : K) → E a b ≡ is_eq (R a b)) → (k : K) (xs : List X) → Rises R key xs
      → (r : Result ℕ ℕ) → IsSearchInRange r (length xs) → IsBinarySearchResult (λ y. R (key y) k) xs r
      → is_ok r ≡ list_any (λ y. E k (key y)) xs
  is_ok_search E ties k xs rises (Ok i) within p =
      sym (list_any_there E ties k xs i (Stands_at k xs i within p).0 within (Stands_at k xs i within p).1)
  is_ok_search E ties k xs rises (Err i) within p =
      sym (ap (list_any (λ y. E k (key y))) (sym (take-append-drop i xs))
      ∙ list_any_apart E ties k (take i xs) (drop i xs) (Splits_at k xs i within (p (searchable k xs rises))))

  -- where a binary search ends without the item's key the item comes in
  pub with_item_at : (xs : List X) (i : ℕ) (x : X) → Rises R key xs → i ≤ length xs
      → IsPartitionPoint (λ y. R (key y) (key x) ≡ Less) (λ y. R (key y) (key x) ≡ Greater) xs i
      → with_item R key xs x ≡ take i xs ++ x ∷ drop i xs
  with_item_at xs i x rises within p =
      ap (λ ys. with_item R key ys x) (sym (take-append-drop i xs))
      ∙ with_item_new (take i xs) (drop i xs) x (Splits_at (key x) xs i within p)

  pub Rises_at : (xs : List X) (i : ℕ) (x : X) → Rises R key xs → i ≤ length xs
      → IsPartitionPoint (λ y. R (key y) (key x) ≡ Less) (λ y. R (key y) (key x) ≡ Greater) xs i
      → Rises R key (take i xs ++ x ∷ drop i xs)
  Rises_at xs i x rises within p =
      let whole : Rises R key (take i xs ++ drop i xs) = rw (take-append-drop i xs) rises in
      Rises_between (take i xs) (drop i xs) x whole (Splits_at (key x) xs i within p)

  -- an item that is there already changes nothing
  pub with_item_same : (xs : List X) (i : ℕ) (x : X) → Rises R key xs → StandsAt R key (key x) xs i x
      → with_item R key xs x ≡ xs
  with_item_same xs i x rises s =
      let whole : Rises R key (take i xs ++ x ∷ drop (suc i) xs) = rw (← s.parts) rises in
      ap (λ ys. with_item R key ys x) s.parts ∙ with_item_there (take i xs) (drop (suc i) xs) x x whole s.tie
      ∙ sym s.parts

  -- what goes when a key goes
  pub without_key_there : (k : K) (xs : List X) (i : ℕ) (x : X) → Rises R key xs → StandsAt R key k xs i x
      → without_key R key xs k ≡ take i xs ++ drop (suc i) xs
  without_key_there k xs i x rises s =
      let whole : Rises R key (take i xs ++ x ∷ drop (suc i) xs) = rw (← s.parts) rises in
      let apart = Splits_around k (take i xs) (drop (suc i) xs) x whole s.tie in
      ap (λ ys. without_key R key ys k) s.parts
      ∙ ap (λ ys. ys ++ behind R key k (take i xs ++ x ∷ drop (suc i) xs))
      (before_around k (take i xs) (drop (suc i) xs) x apart s.tie)
      ∙ ap (λ ys. take i xs ++ ys) (behind_around k (take i xs) (drop (suc i) xs) x apart s.tie)

  pub without_key_apart : (k : K) (front back : List X) → Splits R key k front back
      → without_key R key (front ++ back) k ≡ front ++ back
  without_key_apart k front back s =
      ap (λ ys. ys ++ behind R key k (front ++ back)) (before_apart k front back s)
      ∙ ap (λ ys. front ++ ys) (behind_apart k front back s)

  pub without_key_at : (k : K) (xs : List X) (i : ℕ) → i ≤ length xs
      → IsPartitionPoint (λ y. R (key y) k ≡ Less) (λ y. R (key y) k ≡ Greater) xs i → without_key R key xs k ≡ xs
  without_key_at k xs i within p =
      rw (take-append-drop i xs) at (without_key_apart k (take i xs) (drop i xs) (Splits_at k xs i within p))

  -- a key behind the last is behind all
  pub All-before_last : (k : K) (xs : List X) (last : X) → Rises R key xs → 0 < length xs
      → last ≡ get_or xs (length xs - 1) last → R (key last) k ≡ Less → All (λ x. is_lt (R (key x) k) ≡ true) xs
  All-before_last k xs last rises some is low =
      λ i d below. elim (cases_lt i (length xs - 1)) [
        | inl less ↦
            let e = get_or_default xs (length xs - 1) d last (omega arith) in
            let step = Less_from_is_lt _ (rises i (length xs - 1) d less (omega arith)) in
            ap is_lt (o.trans _ _ k step (rw (e ∙ sym is) low))
        | inr more ↦
            let here : i ≡ length xs - 1 = omega arith in
            let e = get_or_default xs (length xs - 1) d last (omega arith) in
            rw (here, e ∙ sym is) (ap is_lt low)
      ]

  pub AllPairs_last : (xs : List X) (x : X) → Rises R key xs → All (λ y. is_lt (R (key y) (key x)) ≡ true) xs
      → Rises R key (xs ++ x ∷ [])
  AllPairs_last xs x rises low =
      let whole : Rises R key (xs ++ []) = rw (append-nil xs) rises in
      AllPairs_between (λ a b. is_lt (R (key a) (key b)) ≡ true) xs [] x whole low (λ i d below. absurd (omega arith))

  -- what a search for the key finds, by a test that ties with the order
  pub find_there : (E : K → K → Bool) → ((a b : K) → E a b ≡ is_eq (R a b)) → (k : K) (front back : List X) (x : X)
      → Splits R key k front back → R (key x) k ≡ Equal → find (λ y. E (key y) k) (front ++ x ∷ back) ≡ Some x
  find_there E ties k front back x s e =
      find_over (λ y. E (key y) k) front (x ∷ back) (λ i d h. ties (key (get_or front i d)) k ∙ ap is_eq (s.low i d h))
      ∙ ap (λ b. cond b (Some x) (find (λ y. E (key y) k) back)) (ties (key x) k ∙ ap is_eq e)

  pub find_apart : (E : K → K → Bool) → ((a b : K) → E a b ≡ is_eq (R a b)) → (k : K) (front back : List X)
      → Splits R key k front back → find (λ y. E (key y) k) (front ++ back) ≡ None
  find_apart E ties k front back s =
      find_over (λ y. E (key y) k) front back (λ i d h. ties (key (get_or front i d)) k ∙ ap is_eq (s.low i d h))
      ∙ ap (find (λ y. E (key y) k)) (sym (append-nil back))
      ∙ find_over (λ y. E (key y) k) back [] (λ i d h. ties (key (get_or back i d)) k
      ∙ unequal k (key (get_or back i d)) (s.high i d h))

  pub find_stands : (E : K → K → Bool) → ((a b : K) → E a b ≡ is_eq (R a b)) → (k : K) (xs : List X) (i : ℕ) (x : X)
      → Rises R key xs → StandsAt R key k xs i x → find (λ y. E (key y) k) xs ≡ Some x
  find_stands E ties k xs i x rises s =
      let whole : Rises R key (take i xs ++ x ∷ drop (suc i) xs) = rw (← s.parts) rises in
      ap (find (λ y. E (key y) k)) s.parts ∙ find_there E ties k (take i xs) (drop (suc i) xs) x
      (Splits_around k (take i xs) (drop (suc i) xs) x whole s.tie) s.tie

  -- the list stays in order when an item takes the place of one of its key
  pub Rises_there : (front back : List X) (x y : X) → Rises R key (front ++ x ∷ back) → R (key x) (key y) ≡ Equal
      → Rises R key (front ++ y ∷ back)
  Rises_there front back x y rises e =
      Rises_between front back y (AllPairs_without (λ a b. is_lt (R (key a) (key b)) ≡ true) front back x rises)
      (Splits_around (key y) front back x rises e)

  pub with_item_set : (xs : List X) (i : ℕ) (x y : X) → Rises R key xs → i < length xs → StandsAt R key (key y) xs i x
      → with_item R key xs y ≡ set xs i y
  with_item_set xs i x y rises below s =
      let whole : Rises R key (take i xs ++ x ∷ drop (suc i) xs) = rw (← s.parts) rises in
      ap (λ ys. with_item R key ys y) s.parts ∙ with_item_there (take i xs) (drop (suc i) xs) y x whole s.tie
      ∙ sym (set_split xs i y below)

  pub Rises_set : (xs : List X) (i : ℕ) (x y : X) → Rises R key xs → i < length xs → StandsAt R key (key y) xs i x
      → Rises R key (set xs i y)
  Rises_set xs i x y rises below s =
      let whole : Rises R key (take i xs ++ x ∷ drop (suc i) xs) = rw (← s.parts) rises in
      rw (set_split xs i y below) (Rises_there (take i xs) (drop (suc i) xs) x y whole s.tie)

  -- what a binary search answers
  pub found_search : (k : K) (xs : List X) → Rises R key xs → (r : Result ℕ ℕ) → IsSearchInRange r (length xs)
      → IsBinarySearchResult (λ y. R (key y) k) xs r
      → IfOk r (λ i. (i < length xs) × ((x : X) × StandsAt R key k xs i x))
  found_search k xs rises (Ok i) within p = (within, Stands_at k xs i within p)
  found_search k xs rises (Err i) within p = tt

  pub missing_search : (k : K) (xs : List X) → Rises R key xs → (r : Result ℕ ℕ) → IsSearchInRange r (length xs)
      → IsBinarySearchResult (λ y. R (key y) k) xs r → IfErr r
      (λ i. (i ≤ length xs) × Splits R key k (take i xs) (drop i xs))
  missing_search k xs rises (Ok i) within p = tt
  missing_search k xs rises (Err i) within p = (within, Splits_at k xs i within (p (searchable k xs rises)))

  -- an item comes in where its key parts the list
  pub with_item_parted : (xs : List X) (i : ℕ) (x : X) → Splits R key (key x) (take i xs) (drop i xs)
      → with_item R key xs x ≡ take i xs ++ x ∷ drop i xs
  with_item_parted xs i x s =
      ap (λ ys. with_item R key ys x) (sym (take-append-drop i xs)) ∙ with_item_new (take i xs) (drop i xs) x s

  pub Rises_parted : (xs : List X) (i : ℕ) (x : X) → Rises R key xs → Splits R key (key x) (take i xs) (drop i xs)
      → Rises R key (take i xs ++ x ∷ drop i xs)
  Rises_parted xs i x rises s =
      let whole : Rises R key (take i xs ++ drop i xs) = rw (take-append-drop i xs) rises in
      Rises_between (take i xs) (drop i xs) x whole s

  pub find_parted : (E : K → K → Bool) → ((a b : K) → E a b ≡ is_eq (R a b)) → (k : K) (xs : List X) (i : ℕ)
      → Splits R key k (take i xs) (drop i xs) → find (λ y. E (key y) k) xs ≡ None
  find_parted E ties k xs i s =
      ap (find (λ y. E (key y) k)) (sym (take-append-drop i xs)) ∙ find_apart E ties k (take i xs) (drop i xs) s
