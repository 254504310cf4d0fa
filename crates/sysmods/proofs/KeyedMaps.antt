-- Maps whose values know their keys: what the list of the values is after a change of the map.
use Rattle.std.proofs.Common.{◌≡◌, Bool, true, false, not, List, [], ◌∷◌, ◌++◌, filter, find, cond, refl, sym, ap, ◌∙◌}
use Rattle.std.proofs.Common.{subst, None, Some, IsTrue, All, arith}
use Rattle.std.specs.declared.cmp.Ordering.{Ordering}
use Rattle.std.specs.declared.cmp.Ordering.TheVariants.{Less, Equal, Greater}
use Rattle.std.specs.Ordering.{is_lt, is_eq}
use Rattle.std.specs.Cmp.{IsTotalOrder}
use Rattle.std.specs.List.{AllByRecursion}
use Rattle.std.specs.List.Sorted.{IsStrictlySortedBy}
use Rattle.std.specs.Map.{lookup, remove_entry, keys_of, values_of}
use Rattle.std.specs.BTreeMap.{insert_entry, is_at}
use Rattle.std.proofs.lemmas.Cmp.{tied_itself, tied_back}
use Rattle.std.proofs.lemmas.List.Elements.{All-cons, All-nil}
use Rattle.std.proofs.lemmas.List.Kept.{AllPairs-cons}
use Rattle.std.proofs.lemmas.Map.Keys.{sorted_head, sorted_tail}
use Rattle.terms.proofs.Orderings.{Greater_turned, Less_turned, above_lower, above_same, Equal_from_is_eq}
use Rattle.sysmods.specs.KeyedMaps.{KnowKeys}
use Rattle.terms.specs.Rising.{Rises, with_item}
use Rattle.terms.proofs.GlobalGroups.{put_ahead, put_behind}
use Rattle.terms.proofs.Searches.{filter_all_recursion}
use Rattle.terms.proofs.Each.{recursion_weaker}

-- the test by the key's order is the test of the values
abbrev pub Ties : {X K : Type 0} → (K → Bool) → (X → K) → (X → Bool) → Type 0
Ties {X} test key p = (x : X) → test (key x) ≡ p x

module _ {X K : Type 0} {C : K → K → Ordering} (o : IsTotalOrder C) (key : X → K) where
  -- what is known of the keys is known of the values
  pub values_have : (P : K → Type 0) (es : List (K × X)) → KnowKeys key es → AllByRecursion P (keys_of es)
      → AllByRecursion (λ x. P (key x)) (values_of es)
  values_have P [] known all = tt
  values_have P (e ∷ es) known all = (subst P (sym known.0) all.0, values_have P es known.1 all.1)

  R : X → X → Ordering
  R a b = C (key a) (key b)

  all_behind : (y : X) (es : List (K × X)) → KnowKeys key es → AllByRecursion (λ q. C (key y) q ≡ Less) (keys_of es)
      → (xs : List X) → with_item C key (xs ++ values_of es) y ≡ with_item C key xs y ++ values_of es
  unfolding R
  all_behind y es known above xs =
      let behind = values_have (λ q. C (key y) q ≡ Less) es known above in
      put_behind R xs (values_of es) y
      (recursion_weaker (λ x. C (key y) (key x) ≡ Less) (λ x. is_lt (R x y) ≡ false)
      (λ x h. ap is_lt (Greater_turned o (key y) (key x) h)) (values_of es) behind)
      (recursion_weaker (λ x. C (key y) (key x) ≡ Less) (λ x. is_lt (R y x) ≡ true) (λ x h. ap is_lt h) (values_of es)
      behind)

  -- a value takes its place by its key
  pub values_insert_entry : (es : List (K × X)) (y : X) → KnowKeys key es → IsStrictlySortedBy C (keys_of es)
      → values_of (insert_entry C es (key y) y) ≡ with_item C key (values_of es) y
  unfolding R
  values_insert_entry [] y known sorted = refl
  values_insert_entry (e ∷ es) y known sorted = by (values_insert_entry es y known.1
      (sorted_tail C e.0 (keys_of es) sorted)) (C (key y) e.0) refl
    where
      higher : AllByRecursion (λ q. C e.0 q ≡ Less) (keys_of es)
      higher = sorted_head C e.0 (keys_of es) sorted

      at : (c : Ordering) → C (key y) e.0 ≡ c → C (key y) (key e.1) ≡ c
      at c is = ap (C (key y)) known.0 ∙ is

      by : values_of (insert_entry C es (key y) y) ≡ with_item C key (values_of es) y
          → (c : Ordering) → C (key y) e.0 ≡ c → values_of (insert_entry C (e ∷ es) (key y) y) ≡ with_item C key
          (values_of (e ∷ es)) y
      by again Less c = rw c (sym (all_behind y (e ∷ es) known (c, above_lower o (key y) e.0 (keys_of es) c higher) []))
      by again Equal c =
          let alone : with_item C key (e.1 ∷ []) y ≡ y ∷ [] =
          rw (at Equal c, tied_back o (key y) (key e.1) (at Equal c)) refl in
          rw c (ap (λ xs. xs ++ values_of es) (sym alone) ∙ sym
          (all_behind y es known.1 (above_same o (key y) e.0 (keys_of es) c higher) (e.1 ∷ [])))
      by again Greater c =
          let first : is_lt (R e.1 y) ≡ true = ap is_lt (Less_turned o (key y) (key e.1) (at Greater c)) in
          let second : is_lt (R y e.1) ≡ false = ap is_lt (at Greater c) in
          rw c (ap (λ xs. e.1 ∷ xs) again ∙ sym (put_ahead R (e.1 ∷ []) (values_of es) y (first, tt) (second, tt)))

  pub KnowKeys_insert_entry : (es : List (K × X)) (y : X) → ((k : K) → C (key y) k ≡ Equal → key y ≡ k)
      → KnowKeys key es → KnowKeys key (insert_entry C es (key y) y)
  KnowKeys_insert_entry [] y exact known = (refl, tt)
  KnowKeys_insert_entry (e ∷ es) y exact known = by (KnowKeys_insert_entry es y exact known.1) (C (key y) e.0) refl
    where
      by : KnowKeys key (insert_entry C es (key y) y) → (c : Ordering) → C (key y) e.0 ≡ c
          → KnowKeys key (insert_entry C (e ∷ es) (key y) y)
      by again Less c = rw c (refl, known)
      by again Equal c = rw c (exact e.0 c, known.1)
      by again Greater c = rw c (known.0, again)

  pub KnowKeys_remove_entry : (test : K → Bool) (es : List (K × X)) → KnowKeys key es
      → KnowKeys key (remove_entry test es)
  KnowKeys_remove_entry test [] known = tt
  KnowKeys_remove_entry test (e ∷ es) known = by (KnowKeys_remove_entry test es known.1) (test e.0) refl
    where
      by : KnowKeys key (remove_entry test es) → (b : Bool) → test e.0 ≡ b → KnowKeys key (remove_entry test (e ∷ es))
      by again true here = rw here known.1
      by again false other = rw other (known.0, again)

  -- the value of a key goes
  pub values_remove_entry : (k : K) (p : X → Bool) → Ties (is_at (C k)) key p → (es : List (K × X)) → KnowKeys key es
      → IsStrictlySortedBy C (keys_of es)
      → values_of (remove_entry (is_at (C k)) es) ≡ filter (λ x. not (p x)) (values_of es)
  values_remove_entry k p ties [] known sorted = refl
  values_remove_entry k p ties (e ∷ es) known sorted =
      by (values_remove_entry k p ties es known.1 (sorted_tail C e.0 (keys_of es) sorted)) (is_at (C k) e.0) refl
    where
      at : (b : Bool) → is_at (C k) e.0 ≡ b → p e.1 ≡ b
      at b is = sym (ties e.1) ∙ ap (λ q. is_at (C k) q) known.0 ∙ is

      others_stay : is_at (C k) e.0 ≡ true → filter (λ x. not (p x)) (values_of es) ≡ values_of es
      others_stay here =
          filter_all_recursion (λ x. not (p x)) (values_of es)
          (recursion_weaker (λ x. C k (key x) ≡ Less) (λ x. not (p x) ≡ true)
          (λ x less. ap not (sym (ties x) ∙ ap is_eq less)) (values_of es)
          (values_have (λ q. C k q ≡ Less) es known.1
          (above_same o k e.0 (keys_of es) (Equal_from_is_eq (C k e.0) here) (sorted_head C e.0 (keys_of es) sorted))))

      by : values_of (remove_entry (is_at (C k)) es) ≡ filter (λ x. not (p x)) (values_of es)
          → (b : Bool) → is_at (C k) e.0 ≡ b → values_of (remove_entry (is_at (C k)) (e ∷ es)) ≡ filter (λ x. not (p x))
          (values_of (e ∷ es))
      by again true here = rw (here, at true here) (sym (others_stay here))
      by again false other = rw (other, at false other) (ap (λ xs. e.1 ∷ xs) again)

  -- what a look-up finds
  pub lookup_values : (test : K → Bool) (p : X → Bool) → Ties test key p → (es : List (K × X)) → KnowKeys key es
      → lookup test es ≡ find p (values_of es)
  lookup_values test p ties [] known = refl
  lookup_values test p ties (e ∷ es) known =
      let here : test e.0 ≡ p e.1 = ap test (sym known.0) ∙ ties e.1 in
      rw here (ap (cond (p e.1) (Some e.1)) (lookup_values test p ties es known.1))

  -- what lies in a range of keys
  pub values_filter : (test : K → Bool) (p : X → Bool) → Ties test key p → (es : List (K × X)) → KnowKeys key es
      → values_of (filter (λ e. test e.0) es) ≡ filter p (values_of es)
  values_filter test p ties [] known = refl
  values_filter test p ties (e ∷ es) known = by (values_filter test p ties es known.1) (test e.0) refl
    where
      by : values_of (filter (λ e. test e.0) es) ≡ filter p (values_of es) → (b : Bool) → test e.0 ≡ b
          → values_of (filter (λ e. test e.0) (e ∷ es)) ≡ filter p (values_of (e ∷ es))
      by again true here = let there : p e.1 ≡ true = sym (ties e.1) ∙ ap test known.0 ∙ here
          in rw (here, there) (ap (λ xs. e.1 ∷ xs) again)
      by again false other = let there : p e.1 ≡ false = sym (ties e.1) ∙ ap test known.0 ∙ other
          in rw (other, there) again

  -- the values rise
  pub Rises_values : (es : List (K × X)) → KnowKeys key es → IsStrictlySortedBy C (keys_of es)
      → Rises C key (values_of es)
  Rises_values [] known sorted = λ i j d less below. absurd (omega arith)
  Rises_values (e ∷ es) known sorted =
      AllPairs-cons (λ x y. IsTrue (is_lt (C (key x) (key y)))) e.1 (values_of es)
      (all_from (values_of es) (values_have (λ q. C e.0 q ≡ Less) es known.1 (sorted_head C e.0 (keys_of es) sorted)))
      (Rises_values es known.1 (sorted_tail C e.0 (keys_of es) sorted))
    where
      all_from : (xs : List X) → AllByRecursion (λ x. C e.0 (key x) ≡ Less) xs
          → All (λ x. IsTrue (is_lt (C (key e.1) (key x)))) xs
      all_from [] all = All-nil (λ x. IsTrue (is_lt (C (key e.1) (key x))))
      all_from (x ∷ xs) all = All-cons (λ x. IsTrue (is_lt (C (key e.1) (key x)))) x xs (rw known.0 (ap is_lt all.0))
          (all_from xs all.1)

  -- ---- undoing an insertion

  none_above : (k : K) (es : List (K × X)) → AllByRecursion (λ q. C k q ≡ Less) (keys_of es)
      → lookup (is_at (C k)) es ≡ None
  none_above k [] all = refl
  none_above k (e ∷ es) all = rw all.0 (none_above k es all.1)

  -- a new entry goes again
  pub remove_insert : (es : List (K × X)) (k : K) (v : X) → lookup (is_at (C k)) es ≡ None
      → remove_entry (is_at (C k)) (insert_entry C es k v) ≡ es
  remove_insert [] k v none = rw (tied_itself o k) refl
  remove_insert (e ∷ es) k v none = by (remove_insert es k v) (C k e.0) refl
    where
      by : (lookup (is_at (C k)) es ≡ None → remove_entry (is_at (C k)) (insert_entry C es k v) ≡ es)
          → (c : Ordering) → C k e.0 ≡ c → remove_entry (is_at (C k)) (insert_entry C (e ∷ es) k v) ≡ e ∷ es
      by again Less c = rw (c, tied_itself o k) refl
      by again Equal c = let found = rw c at none in absurd (some_none found)
        where
          some_none : Some e.1 ≡ None → ⊥
          some_none f = cc
      by again Greater c = let rest = rw c at none in rw (c, c) (ap (λ fs. e ∷ fs) (again rest))

  -- an old value comes again
  pub insert_insert : (es : List (K × X)) (k : K) (v old : X) → IsStrictlySortedBy C (keys_of es)
      → lookup (is_at (C k)) es ≡ Some old
      → insert_entry C (insert_entry C es k v) k old ≡ es
  insert_insert [] k v old sorted some = cc
  insert_insert (e ∷ es) k v old sorted some = by (insert_insert es k v old (sorted_tail C e.0 (keys_of es) sorted))
      (C k e.0) refl
    where
      by : (lookup (is_at (C k)) es ≡ Some old → insert_entry C (insert_entry C es k v) k old ≡ es)
          → (c : Ordering) → C k e.0 ≡ c → insert_entry C (insert_entry C (e ∷ es) k v) k old ≡ e ∷ es
      by again Less c =
          let none = none_above k (e ∷ es) (
            c,
            above_lower o k e.0 (keys_of es) c
                (sorted_head C e.0 (keys_of es) sorted),
          ) in
          absurd (none_some (sym none ∙ some))
        where
          none_some : None ≡ Some old → ⊥
          none_some f = cc
      by again Equal c =
          let found = rw c at some in
          let same : e.1 ≡ old = cc in
          rw (c, c) (ap (λ v. (e.0, v) ∷ es) (sym same))
      by again Greater c = let rest = rw c at some in rw (c, c) (ap (λ fs. e ∷ fs) (again rest))

  -- what was put is found
  pub lookup_inserted : (es : List (K × X)) (k : K) (v : X) → lookup (is_at (C k)) (insert_entry C es k v) ≡ Some v
  lookup_inserted [] k v = rw (tied_itself o k) refl
  lookup_inserted (e ∷ es) k v = by (lookup_inserted es k v) (C k e.0) refl
    where
      by : lookup (is_at (C k)) (insert_entry C es k v) ≡ Some v → (c : Ordering) → C k e.0 ≡ c
          → lookup (is_at (C k)) (insert_entry C (e ∷ es) k v) ≡ Some v
      by again Less c = rw (c, tied_itself o k) refl
      by again Equal c = rw (c, c) refl
      by again Greater c = rw (c, c) again
