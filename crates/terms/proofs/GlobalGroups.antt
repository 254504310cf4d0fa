-- Lists that a map keeps in groups by a key: what stands in the map is the groups one after another.
use Rattle.std.proofs.Common.{◌≡◌, Bool, true, false, List, [], ◌∷◌, ◌++◌, find, refl, sym, ap, ◌∙◌, subst, None}
use Rattle.std.proofs.Common.{append_assoc, append-nil}
use Rattle.std.specs.declared.cmp.Ordering.{Ordering}
use Rattle.std.specs.declared.cmp.Ordering.TheVariants.{Less, Equal, Greater}
use Rattle.std.specs.Ordering.{is_lt, is_eq}
use Rattle.std.specs.Cmp.{IsTotalOrder}
use Rattle.std.specs.List.{AllByRecursion, flat_map}
use Rattle.std.specs.List.Sorted.{IsStrictlySortedBy}
use Rattle.std.specs.Map.{lookup, set_value, remove_entry, keys_of}
use Rattle.std.specs.BTreeMap.{insert_entry, is_at}
use Rattle.std.specs.Option.{option_map_or}
use Rattle.std.proofs.lemmas.List.Elements.{filter-append}
use Rattle.std.proofs.lemmas.Map.Lookups.{CmpEqualImpliesEq}
use Rattle.std.proofs.lemmas.Map.Keys.{sorted_head, sorted_tail}
use Rattle.terms.proofs.Orderings.{Greater_turned, Less_turned, above_lower, above_same, Equal_from_is_eq}
use Rattle.terms.proofs.Each.{recursion_weaker, recursion_append}
use Rattle.terms.proofs.Searches.{filter_all_recursion, filter_none_recursion, find_append_rest, find_append_first}
use Rattle.terms.specs.Rising.{with_item}

-- An element takes its place behind those before it, and ahead of those after it.
module _ {X : Type 0} (R : X → X → Ordering) where
  -- the list with y at its place
  abbrev pub put : List X → X → List X
  put xs y = with_item R (λ x. x) xs y

  pub put_ahead : (xs ys : List X) (y : X)
      → AllByRecursion (λ x. is_lt (R x y) ≡ true) xs → AllByRecursion (λ x. is_lt (R y x) ≡ false) xs
      → put (xs ++ ys) y ≡ xs ++ put ys y
  put_ahead xs ys y ahead apart =
      rw (
        filter-append (λ x. is_lt (R x y)) xs ys,
        filter-append (λ x. is_lt (R y x)) xs ys,
        filter_all_recursion (λ x. is_lt (R x y)) xs ahead,
        filter_none_recursion (λ x. is_lt (R y x)) xs apart,
      )
      (simp append_assoc)

  pub put_behind : (xs ys : List X) (y : X)
      → AllByRecursion (λ x. is_lt (R x y) ≡ false) ys → AllByRecursion (λ x. is_lt (R y x) ≡ true) ys
      → put (xs ++ ys) y ≡ put xs y ++ ys
  put_behind xs ys y apart behind =
      rw (
        filter-append (λ x. is_lt (R x y)) xs ys,
        filter-append (λ x. is_lt (R y x)) xs ys,
        filter_none_recursion (λ x. is_lt (R x y)) ys apart,
        filter_all_recursion (λ x. is_lt (R y x)) ys behind,
        append-nil,
      )
      (simp append_assoc)

module _ {X K V : Type 0} {C : K → K → Ordering} (o : IsTotalOrder C) (key : X → K) (items : V → List X) where
  -- each group's elements have its key
  abbrev pub HasKeys : List (K × V) → Type 0
  HasKeys es = AllByRecursion (λ e. AllByRecursion (λ x. key x ≡ e.0) (items e.1)) es

  -- the groups one after another
  abbrev pub flat : List (K × V) → List X
  flat es = flat_map (λ e. items e.1) es

  -- the group of a key
  abbrev pub items_at : List (K × V) → K → List X
  items_at es k = option_map_or items (lookup (is_at (C k)) es) []

  -- what is known of keys that are above all of a map's is known of the elements
  pub flat_above : (P : K → Type 0) (es : List (K × V)) → HasKeys es → AllByRecursion P (keys_of es)
      → AllByRecursion (λ x. P (key x)) (flat es)
  flat_above P [] keyed all = tt
  flat_above P (e ∷ es) keyed all =
      recursion_append (λ x. P (key x)) (items e.1) (flat es)
      (recursion_weaker (λ x. key x ≡ e.0) (λ x. P (key x)) (λ x same. subst P (sym same) all.0) (items e.1) keyed.0)
      (flat_above P es keyed.1 all.1)

  none_equal : (k : K) (es : List (K × V)) → AllByRecursion (λ q. C k q ≡ Less) (keys_of es)
      → lookup (is_at (C k)) es ≡ None
  none_equal k [] all = refl
  none_equal k (e ∷ es) all = rw all.0 (none_equal k es all.1)

  -- f changes the elements of one key alone
  module _ (f : List X → List X) (k : K) (at_end : f [] ≡ [])
      (joins : (xs ys : List X) → f (xs ++ ys) ≡ f xs ++ f ys)
      (others : (xs : List X) → AllByRecursion (λ x. is_eq (C k (key x)) ≡ false) xs → f xs ≡ xs) where
    rest_stays : (e : K × V) (es : List (K × V)) → HasKeys es → IsStrictlySortedBy C (keys_of (e ∷ es))
        → is_at (C k) e.0 ≡ true
        → f (flat es) ≡ flat es
    rest_stays e es keyed sorted here =
        others (flat es) (recursion_weaker (λ x. C k (key x) ≡ Less) (λ x. is_eq (C k (key x)) ≡ false)
        (λ x less. ap is_eq less) (flat es)
        (flat_above (λ q. C k q ≡ Less) es keyed
        (above_same o k e.0 (keys_of es) (Equal_from_is_eq (C k e.0) here) (sorted_head C e.0 (keys_of es) sorted))))

    group_stays : (e : K × V) → AllByRecursion (λ x. key x ≡ e.0) (items e.1) → is_at (C k) e.0 ≡ false
        → f (items e.1) ≡ items e.1
    group_stays e keyed other =
        others (items e.1) (recursion_weaker (λ x. key x ≡ e.0) (λ x. is_eq (C k (key x)) ≡ false)
        (λ x same. ap (λ q. is_eq (C k q)) same ∙ other) (items e.1) keyed)

    -- what comes of the groups, where this one's elements come to be those of w
    pub flat_set_value : (es : List (K × V)) (w : V) → HasKeys es → IsStrictlySortedBy C (keys_of es)
        → items w ≡ f (items_at es k) → flat (set_value (is_at (C k)) es w) ≡ f (flat es)
    flat_set_value [] w keyed sorted is = sym at_end
    flat_set_value (e ∷ es) w keyed sorted is =
        by (flat_set_value es w keyed.1 (sorted_tail C e.0 (keys_of es) sorted)) (is_at (C k) e.0) refl
      where
        by : (items w ≡ f (items_at es k) → flat (set_value (is_at (C k)) es w) ≡ f (flat es))
            → (b : Bool) → is_at (C k) e.0 ≡ b → flat (set_value (is_at (C k)) (e ∷ es) w) ≡ f (flat (e ∷ es))
        by again true here =
            let now = rw here at is in
            rw (here, joins (items e.1) (flat es), rest_stays e es keyed.1 sorted here) (ap (λ xs. xs ++ flat es) now)
        by again false other =
            let now = rw other at is in
            rw (other, joins (items e.1) (flat es), group_stays e keyed.0 other)
            (ap (λ xs. items e.1 ++ xs) (again now))

    -- and where none of this one's are left
    pub flat_remove_entry : (es : List (K × V)) → HasKeys es → IsStrictlySortedBy C (keys_of es)
        → f (items_at es k) ≡ [] → flat (remove_entry (is_at (C k)) es) ≡ f (flat es)
    flat_remove_entry [] keyed sorted is = sym at_end
    flat_remove_entry (e ∷ es) keyed sorted is =
        by (flat_remove_entry es keyed.1 (sorted_tail C e.0 (keys_of es) sorted)) (is_at (C k) e.0) refl
      where
        by : (f (items_at es k) ≡ [] → flat (remove_entry (is_at (C k)) es) ≡ f (flat es))
            → (b : Bool) → is_at (C k) e.0 ≡ b → flat (remove_entry (is_at (C k)) (e ∷ es)) ≡ f (flat (e ∷ es))
        by again true here =
            let now = rw here at is in
            rw (here, joins (items e.1) (flat es), rest_stays e es keyed.1 sorted here)
            (ap (λ xs. xs ++ flat es) (sym now))
        by again false other =
            let now = rw other at is in
            rw (other, joins (items e.1) (flat es), group_stays e keyed.0 other)
            (ap (λ xs. items e.1 ++ xs) (again now))

  -- y takes its place among all where it takes it in its group
  module _ (R : X → X → Ordering)
      (less : (a b : X) → C (key a) (key b) ≡ Less → R a b ≡ Less)
      (greater : (a b : X) → C (key a) (key b) ≡ Greater → R a b ≡ Greater) where
    behind_key : (xs ys : List X) (y : X) → AllByRecursion (λ x. C (key y) (key x) ≡ Less) ys
        → put R (xs ++ ys) y ≡ put R xs y ++ ys
    behind_key xs ys y behind =
        put_behind R xs ys y
        (recursion_weaker (λ x. C (key y) (key x) ≡ Less) (λ x. is_lt (R x y) ≡ false)
        (λ x h. ap is_lt (greater x y (Greater_turned o (key y) (key x) h))) ys behind)
        (recursion_weaker (λ x. C (key y) (key x) ≡ Less) (λ x. is_lt (R y x) ≡ true) (λ x h. ap is_lt (less y x h)) ys
        behind)

    ahead_key : (xs ys : List X) (y : X) → AllByRecursion (λ x. C (key y) (key x) ≡ Greater) xs
        → put R (xs ++ ys) y ≡ xs ++ put R ys y
    ahead_key xs ys y ahead =
        put_ahead R xs ys y
        (recursion_weaker (λ x. C (key y) (key x) ≡ Greater) (λ x. is_lt (R x y) ≡ true)
        (λ x h. ap is_lt (less x y (Less_turned o (key y) (key x) h))) xs ahead)
        (recursion_weaker (λ x. C (key y) (key x) ≡ Greater) (λ x. is_lt (R y x) ≡ false)
        (λ x h. ap is_lt (greater y x h)) xs ahead)

    pub flat_insert_entry : (es : List (K × V)) (y : X) (w : V) → HasKeys es → IsStrictlySortedBy C (keys_of es)
        → items w ≡ put R (items_at es (key y)) y → flat (insert_entry C es (key y) w) ≡ put R (flat es) y
    flat_insert_entry [] y w keyed sorted is = rw append-nil is
    flat_insert_entry (e ∷ es) y w keyed sorted is =
        by (flat_insert_entry es y w keyed.1 (sorted_tail C e.0 (keys_of es) sorted)) (C (key y) e.0) refl
      where
        higher : AllByRecursion (λ q. C e.0 q ≡ Less) (keys_of es)
        higher = sorted_head C e.0 (keys_of es) sorted

        by : (items w ≡ put R (items_at es (key y)) y → flat (insert_entry C es (key y) w) ≡ put R (flat es) y)
            → (c : Ordering) → C (key y) e.0 ≡ c → flat (insert_entry C (e ∷ es) (key y) w) ≡ put R (flat (e ∷ es)) y
        by again Less c =
            let above : AllByRecursion (λ q. C (key y) q ≡ Less) (keys_of (e ∷ es)) =
            (c, above_lower o (key y) e.0 (keys_of es) c higher) in
            let now = rw (none_equal (key y) (e ∷ es) above) at is in
            rw c (ap (λ xs. xs ++ flat (e ∷ es)) now ∙ sym (behind_key [] (flat (e ∷ es)) y
            (flat_above (λ q. C (key y) q ≡ Less) (e ∷ es) keyed above)))
        by again Equal c =
            let now = rw c at is in
            rw c (ap (λ xs. xs ++ flat es) now
            ∙ sym (behind_key (items e.1) (flat es) y (flat_above (λ q. C (key y) q ≡ Less) es keyed.1
            (above_same o (key y) e.0 (keys_of es) c higher))))
        by again Greater c =
            let now = rw c at is in
            rw c (ap (λ xs. items e.1 ++ xs) (again now)
            ∙ sym (ahead_key (items e.1) (flat es) y (recursion_weaker (λ x. key x ≡ e.0)
            (λ x. C (key y) (key x) ≡ Greater) (λ x same. ap (C (key y)) same ∙ c) (items e.1) keyed.0)))

  -- keys stay with their groups
  pub HasKeys_insert_entry : CmpEqualImpliesEq C → (es : List (K × V)) (k : K) (w : V) → HasKeys es
      → AllByRecursion (λ x. key x ≡ k) (items w)
      → HasKeys (insert_entry C es k w)
  HasKeys_insert_entry exact [] k w keyed now = (now, tt)
  HasKeys_insert_entry exact (e ∷ es) k w keyed now = by (HasKeys_insert_entry exact es k w keyed.1 now) (C k e.0) refl
    where
      by : HasKeys (insert_entry C es k w) → (c : Ordering) → C k e.0 ≡ c → HasKeys (insert_entry C (e ∷ es) k w)
      by again Less c = rw c (now, keyed)
      by again Equal c = rw c (
        recursion_weaker (λ x. key x ≡ k) (λ x. key x ≡ e.0) (λ x same. same ∙ exact k e.0 c)
            (items w) now,
        keyed.1,
      )
      by again Greater c = rw c (keyed.0, again)

  pub HasKeys_set_value : CmpEqualImpliesEq C → (es : List (K × V)) (k : K) (w : V) → HasKeys es
      → AllByRecursion (λ x. key x ≡ k) (items w)
      → HasKeys (set_value (is_at (C k)) es w)
  HasKeys_set_value exact [] k w keyed now = tt
  HasKeys_set_value exact (e ∷ es) k w keyed now = by (HasKeys_set_value exact es k w keyed.1 now) (is_at (C k) e.0)
      refl
    where
      by : HasKeys (set_value (is_at (C k)) es w) → (b : Bool) → is_at (C k) e.0 ≡ b
          → HasKeys (set_value (is_at (C k)) (e ∷ es) w)
      by again true here = rw here (
        recursion_weaker (λ x. key x ≡ k) (λ x. key x ≡ e.0)
            (λ x same. same ∙ exact k e.0 (Equal_from_is_eq (C k e.0) here)) (items w) now,
        keyed.1,
      )
      by again false other = rw other (keyed.0, again)

  pub HasKeys_remove_entry : (test : K → Bool) (es : List (K × V)) → HasKeys es → HasKeys (remove_entry test es)
  HasKeys_remove_entry test [] keyed = tt
  HasKeys_remove_entry test (e ∷ es) keyed = by (HasKeys_remove_entry test es keyed.1) (test e.0) refl
    where
      by : HasKeys (remove_entry test es) → (b : Bool) → test e.0 ≡ b → HasKeys (remove_entry test (e ∷ es))
      by again true here = rw here keyed.1
      by again false other = rw other (keyed.0, again)

  pub items_at_keys : CmpEqualImpliesEq C → (es : List (K × V)) (k : K) → HasKeys es
      → AllByRecursion (λ x. key x ≡ k) (items_at es k)
  items_at_keys exact [] k keyed = tt
  items_at_keys exact (e ∷ es) k keyed = by (items_at_keys exact es k keyed.1) (is_at (C k) e.0) refl
    where
      by : AllByRecursion (λ x. key x ≡ k) (items_at es k) → (b : Bool) → is_at (C k) e.0 ≡ b
          → AllByRecursion (λ x. key x ≡ k) (items_at (e ∷ es) k)
      by again true here = rw here (recursion_weaker (λ x. key x ≡ e.0) (λ x. key x ≡ k)
          (λ x same. same ∙ sym (exact k e.0 (Equal_from_is_eq (C k e.0) here))) (items e.1) keyed.0)
      by again false other = rw other again

  -- what only elements of one key pass is found in its group
  pub find_flat : (p : X → Bool) (k : K) → ((x : X) → is_eq (C k (key x)) ≡ false → p x ≡ false)
      → (es : List (K × V)) → HasKeys es → IsStrictlySortedBy C (keys_of es) → find p (flat es) ≡ find p (items_at es k)
  find_flat p k only [] keyed sorted = refl
  find_flat p k only (e ∷ es) keyed sorted =
      by (find_flat p k only es keyed.1 (sorted_tail C e.0 (keys_of es) sorted)) (is_at (C k) e.0) refl
    where
      none : (xs : List X) → AllByRecursion (λ x. is_eq (C k (key x)) ≡ false) xs → AllByRecursion (λ x. p x ≡ false) xs
      none xs all = recursion_weaker (λ x. is_eq (C k (key x)) ≡ false) (λ x. p x ≡ false) only xs all

      by : find p (flat es) ≡ find p (items_at es k) → (b : Bool) → is_at (C k) e.0 ≡ b
          → find p (flat (e ∷ es)) ≡ find p (items_at (e ∷ es) k)
      by again true here =
          rw here (find_append_first p (items e.1) (flat es)
          (none (flat es) (recursion_weaker (λ x. C k (key x) ≡ Less) (λ x. is_eq (C k (key x)) ≡ false)
          (λ x less. ap is_eq less) (flat es)
          (flat_above (λ q. C k q ≡ Less) es keyed.1
          (above_same o k e.0 (keys_of es) (Equal_from_is_eq (C k e.0) here)
          (sorted_head C e.0 (keys_of es) sorted))))))
      by again false other =
          rw other (find_append_rest p (items e.1) (flat es)
          (none (items e.1) (recursion_weaker (λ x. key x ≡ e.0) (λ x. is_eq (C k (key x)) ≡ false)
          (λ x same. ap (λ q. is_eq (C k q)) same ∙ other) (items e.1) keyed.0))
          ∙ again)
