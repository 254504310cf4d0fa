-- The rows of a table as a list in any order.
use Rattle.std.proofs.Common.{◌≡◌, ◌⊎◌, inl, inr, ℕ, ℤ, List, [], ◌∷◌, map, filter, drop, Bool, true, false, not, ◌&&◌}
use Rattle.std.proofs.Common.{◌||◌, cond, IsTrue, IsPermutation, Ordering, Less, Equal, Greater, refl, sym, ap, subst}
use Rattle.std.proofs.Common.{◌∙◌}
use Rattle.std.specs.List.{list_any}
use Rattle.std.specs.Ordering.{is_eq}
use Rattle.std.proofs.lemmas.Bool.{cases_Bool}
use Rattle.std.proofs.lemmas.Cmp.{tied_itself}
use Rattle.std.proofs.lemmas.List.Sorted.{IsPermutation-refl, IsPermutation-sym, IsPermutation-trans}
use Rattle.std.proofs.lemmas.List.Sorted.{IsPermutation-cons, IsPermutation-map, IsPermutation-swap}
use Rattle.std.proofs.lemmas.List.Sorted.{list_any-IsPermutation, Contains-permutation}
use Rattle.terms.proofs.Orderings.{Equal_from_is_eq}
use Rattle.terms.proofs.Searches.{list_any_map}
use Rattle.sqlite.specs.declared.types.Value.TheVariants.{Int}
use Rattle.sqlite.specs.Order.{Row, value_cmp}
use Rattle.sqlite.specs.Tree.{rowid, has_rowid, put_row, without_rowid}
use Rattle.sqlite.specs.View.{is_int}
use Rattle.sqlite_trees.specs.declared.store.Shape.TheVariants.{Table}
use Rattle.sqlite.specs.Edit.{id_in, is_taken, without_all}
use Rattle.sqlite_value.proofs.OrderLemmas.{value_cmp_total}
use Rattle.sqlite_trees.proofs.TreeLemmas.{IsTable-put_row, all-put_row, IsShaped-filter}
use Rattle.sqlite_trees.proofs.ListLemmas.{map-map, filter-map, IsPermutation-filter}
use Rattle.sqlite_rules.specs.Calls.{ids_of}
use Rattle.sqlite_rules.specs.Lists.{Has}
use Rattle.sqlite_rules.proofs.ListLemmas.{all_has, some_has, some_from, has_filtered, has_kept, has_contained}
use Rattle.sqlite_rules.proofs.ListLemmas.{contains_had}
use Rattle.sqlite_rules.proofs.TableLemmas.{int_is}
use Rattle.sqlite_rules.proofs.PlaceLemmas.{tied_same}
use Rattle.store_rows.specs.Numbered.{AreNumbered}

pub has_permuted : {X : Type 0} (xs ys : List X) (x : X) → IsPermutation xs ys → Has xs x → Has ys x
has_permuted xs ys x same h = has_contained ys x (Contains-permutation xs ys x same (contains_had xs x h))

pub same_rows : {X : Type 0} {xs ys : List X} → xs ≡ ys → IsPermutation xs ys
same_rows {xs = xs} e = subst (IsPermutation xs) e (IsPermutation-refl xs)

pub mapped : {A B : Type 0} (f : A → B) (xs : List A) (x : A) → Has xs x → Has (map f xs) (f x)
mapped f [] x h = h
mapped f (y ∷ xs) x (inl e) = inl (ap f e)
mapped f (y ∷ xs) x (inr h) = inr (mapped f xs x h)

pub unmapped : {A B : Type 0} (f : A → B) (xs : List A) (y : B) → Has (map f xs) y → (x : A) × Has xs x × (y ≡ f x)
unmapped f [] y h = absurd h
unmapped f (x ∷ xs) y (inl e) = (x, inl refl, e)
unmapped f (x ∷ xs) y (inr h) = let it = unmapped f xs y h in (it.0, inr it.1, it.2)

swapped : {X : Type 0} (a b : X) (xs : List X) → IsPermutation (a ∷ b ∷ xs) (b ∷ a ∷ xs)
swapped a b xs = IsPermutation-swap (a ∷ b ∷ xs) (b ∷ a ∷ xs) 0 1 (omega Rattle.std.proofs.Common.arith)
    (omega Rattle.std.proofs.Common.arith) refl

-- a row whose rowid is free is one more row
pub put_adds : (new : Row) (rows : List Row) → is_taken rows new ≡ false → IsPermutation (new ∷ rows) (put_row new rows)
put_adds new [] free = IsPermutation-refl (new ∷ [])
put_adds new (r ∷ rows) free = go (value_cmp (rowid r) (rowid new)) refl free (put_adds new rows)
  where
    go : (o : Ordering) → value_cmp (rowid r) (rowid new) ≡ o
        → (is_eq (value_cmp (rowid r) (rowid new)) || is_taken rows new) ≡ false
        → (is_taken rows new ≡ false → IsPermutation (new ∷ rows) (put_row new rows))
        → IsPermutation (new ∷ r ∷ rows) (put_row new (r ∷ rows))
    go Less e none later = rw e (IsPermutation-trans _ _ _ (swapped new r rows)
        (IsPermutation-cons r _ _ (later (rw e at none))))
    go Equal e none later = absurd (let wrong = rw e at none in cc)
    go Greater e none later = rw e (IsPermutation-refl (new ∷ r ∷ rows))

pub none_numbered : AreNumbered []
none_numbered = record { sorted = []; same = IsPermutation-refl []; rise = tt; keyed = tt }

module _ (shown : Row → Row) where
  -- a row as its rowid and what a query shows of it
  abbrev pub whole : Row → Row
  whole r = rowid r ∷ shown r

  pub put_numbered : (new : Row) (rows : List Row) → is_taken rows new ≡ false → is_int (rowid new) ≡ true
      → AreNumbered (map whole rows) → AreNumbered (map whole (put_row new rows))
  put_numbered new rows free keyed h =
      let one = whole new in
      let also : is_taken h.sorted one ≡ false = sym (list_any-IsPermutation
      (λ r. is_eq (value_cmp (rowid r) (rowid new))) (map whole rows) h.sorted h.same)
      ∙ list_any_map (λ r. is_eq (value_cmp (rowid r) (rowid new))) whole rows ∙ free in
      record {
        sorted = put_row one h.sorted;
        same = IsPermutation-trans _ _ _ (IsPermutation-map whole _ _ (IsPermutation-sym _ _ (put_adds new rows free)))
            (IsPermutation-trans _ _ _ (IsPermutation-cons one _ _ h.same) (put_adds one h.sorted also));
        rise = IsTable-put_row one h.sorted h.rise;
        keyed = all-put_row _ one h.sorted keyed h.keyed;
      }

filter_twice : {X : Type 0} (p q : X → Bool) (xs : List X) → filter p (filter q xs) ≡ filter (λ x. q x && p x) xs
filter_twice p q [] = refl
filter_twice p q (x ∷ xs) = go (q x) refl (filter_twice p q xs)
  where
    go : (b : Bool) → q x ≡ b → filter p (filter q xs) ≡ filter (λ y. q y && p y) xs
        → filter p (filter q (x ∷ xs)) ≡ filter (λ y. q y && p y) (x ∷ xs)
    go true e later = rw e (ap (λ ys. cond (p x) (x ∷ ys) ys) later)
    go false e later = rw e later

pub filter_same : {X : Type 0} (p q : X → Bool) (xs : List X) → ((x : X) → Has xs x → p x ≡ q x)
    → filter p xs ≡ filter q xs
filter_same p q [] same = refl
filter_same p q (x ∷ xs) same = rw (same x (inl refl)) (ap (λ ys. cond (q x) (x ∷ ys) ys)
    (filter_same p q xs (λ y h. same y (inr h))))

neither : (a b : Bool) → (not a && not b) ≡ not (a || b)
neither true b = refl
neither false b = refl

pub filter_all : {X : Type 0} (xs : List X) → filter (λ x. true) xs ≡ xs
filter_all [] = refl
filter_all (x ∷ xs) = ap (λ ys. x ∷ ys) (filter_all xs)

-- the rows whose rowid is none of these
left_by_all : (ids : List ℤ) (rows : List Row) → without_all rows ids ≡ filter
    (λ r. not (list_any (λ id. has_rowid id r) ids)) rows
left_by_all [] rows = sym (filter_all rows)
left_by_all (id ∷ ids) rows =
    left_by_all ids (without_rowid id rows) ∙ filter_twice (λ r. not (list_any (λ i. has_rowid i r) ids))
    (λ r. not (has_rowid id r)) rows
    ∙ filter_same _ _ rows (λ r h. neither (has_rowid id r) (list_any (λ i. has_rowid i r) ids))

-- the rowids of what a query shows of rows, with each rowid in front
pub ids_shown : (f : Row → Row) → ((r : Row) → rowid (f r) ≡ rowid r) → (rows found : List Row)
    → IsPermutation (map f rows) found → IsPermutation (map (λ r. id_in (rowid r)) rows) (ids_of found)
ids_shown f same rows found h =
    let ids : map (λ r. id_in (rowid r)) (map f rows) ≡ map (λ r. id_in (rowid r)) rows =
    map-map (λ r. id_in (rowid r)) f rows ∙ (λ i. map (λ r. id_in (same r i)) rows) in
    subst (λ l. IsPermutation l (ids_of found)) ids (IsPermutation-map (λ r. id_in (rowid r)) _ _ h)

module _ (shown : Row → Row) (rows : List Row) (numbered : AreNumbered (map (whole shown) rows)) where
  in_order : (r : Row) → Has rows r → Has numbered.sorted (whole shown r)
  in_order r h = has_permuted _ _ _ numbered.same (mapped (whole shown) rows r h)

  pub keyed : (r : Row) → Has rows r → rowid r ≡ Int (id_in (rowid r))
  keyed r h = int_is (rowid r) (all_has _ numbered.sorted (whole shown r) numbered.keyed (in_order r h))

  pub same_shown : (a b : Row) → Has rows a → Has rows b → value_cmp (rowid a) (rowid b) ≡ Equal → shown a ≡ shown b
  same_shown a b h k tie = let e = tied_same numbered.sorted (whole shown a) (whole shown b) numbered.rise
      (in_order a h) (in_order b k) tie in cc

  meets_itself : (r : Row) → Has rows r → has_rowid (id_in (rowid r)) r ≡ true
  meets_itself r h = ap (λ v. is_eq (value_cmp (rowid r) v)) (sym (keyed r h))
      ∙ ap is_eq (tied_itself value_cmp_total (rowid r))

  abbrev pub ids_by : (Row → Bool) → List ℤ
  ids_by p = map (λ y. id_in (rowid y)) (filter (λ y. p (shown y)) rows)

  found_by : (p : Row → Bool) (r : Row) → Has rows r → list_any (λ id. has_rowid id r) (ids_by p) ≡ p (shown r)
  found_by p r h = elim (cases_Bool (p (shown r))) [
    | inl e ↦ some_from (λ id. has_rowid id r) (ids_by p) (id_in (rowid r))
        (mapped (λ y. id_in (rowid y)) _ r (has_kept (λ y. p (shown y)) rows r h e)) (meets_itself r h) ∙ sym e
    | inr e ↦ elim (cases_Bool (list_any (λ id. has_rowid id r) (ids_by p))) [
      | inl some ↦
          let it = some_has (λ id. has_rowid id r) (ids_by p) some in
          let from = unmapped (λ y. id_in (rowid y)) (filter (λ y. p (shown y)) rows) it.0 it.1 in
          let was = has_filtered (λ y. p (shown y)) rows from.0 from.1 in
          let is : rowid from.0 ≡ Int it.0 = keyed from.0 was.0 ∙ ap Int (sym from.2) in
          let tie : value_cmp (rowid r) (rowid from.0) ≡ Equal =
          Equal_from_is_eq _ (ap (λ v. is_eq (value_cmp (rowid r) v)) is ∙ it.2) in
          let same = same_shown r from.0 h was.0 tie in
          absurd (let wrong : p (shown r) ≡ true = ap p same ∙ was.1 in cc)
      | inr none ↦ none ∙ sym e
    ]
  ]

  -- A row that has one of the rowids that a test of what is shown found passes the test.
  pub found_meets : (p : Row → Bool) (ids : List ℤ) → IsPermutation (ids_by p) ids → (r : Row) → Has rows r
      → list_any (λ id. has_rowid id r) ids ≡ p (shown r)
  found_meets p ids same r h = sym (list_any-IsPermutation (λ id. has_rowid id r) (ids_by p) ids same) ∙ found_by p r h

  -- what is left when the rows that a test of what is shown found are deleted by their rowids
  pub deleted : (p : Row → Bool) (ids : List ℤ) → IsPermutation (ids_by p) ids
      → without_all rows ids ≡ filter (λ r. not (p (shown r))) rows
  deleted p ids same = left_by_all ids rows ∙ filter_same _ _ rows (λ r h. ap not (found_meets p ids same r h))

  pub filter_numbered : (p : Row → Bool) → AreNumbered (map (whole shown) (filter (λ r. p (shown r)) rows))
  filter_numbered p =
      let test = λ (w : Row). p (drop 1 w) in
      let shaped = IsShaped-filter Table test numbered.sorted (numbered.rise, numbered.keyed) in
      record {
        sorted = filter test numbered.sorted;
        same = subst (λ l. IsPermutation l (filter test numbered.sorted)) (filter-map test (whole shown) rows)
            (IsPermutation-filter test _ _ numbered.same);
        rise = shaped.0;
        keyed = shaped.1;
      }
