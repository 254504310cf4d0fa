-- Rows of which some pass a test and stand in one table, and the others in another.
use Rattle.std.proofs.Common.{◌≡◌, List, [], ◌∷◌, ◌++◌, append-nil, map, filter, Bool, true, false, not, IsPermutation}
use Rattle.std.proofs.Common.{refl, ap, ap₂, subst, ◌∙◌}
use Rattle.std.specs.List.{AllByRecursion}
use Rattle.std.proofs.lemmas.List.Elements.{filter-append}
use Rattle.std.proofs.lemmas.List.Sorted.{IsPermutation-sym, IsPermutation-trans, IsPermutation-map}
use Rattle.std.proofs.lemmas.List.Sorted.{IsPermutation-append, IsPermutation-filter_both}
use Rattle.sqlite_rules.proofs.ListLemmas.{all_has, all_from, has_filtered}
use Rattle.sqlite_trees.proofs.ListLemmas.{IsPermutation-filter, filter_all, filter_none}

module _ {X : Type 0} (p : X → Bool) where
  abbrev pub others : List X → List X
  others xs = filter (λ x. not (p x)) xs

  -- what passes, and what is left
  pub parted : (xs : List X) → IsPermutation (filter p xs ++ others xs) xs
  parted xs = IsPermutation-sym xs (filter p xs ++ others xs)
      (IsPermutation-filter_both p (λ x. not (p x)) (λ x. refl) xs)

  -- both parts of a list make it
  pub whole_of : (firsts more xs : List X) → IsPermutation firsts (filter p xs) → IsPermutation more (others xs)
      → IsPermutation (firsts ++ more) xs
  whole_of firsts more xs first further =
      IsPermutation-trans (firsts ++ more) (filter p xs ++ others xs) xs
      (IsPermutation-append firsts (filter p xs) more (others xs) first further) (parted xs)

  turned : (xs : List X) → AllByRecursion (λ x. p x ≡ true) xs → AllByRecursion (λ x. not (p x) ≡ false) xs
  turned [] h = tt
  turned (x ∷ xs) h = (ap not h.0, turned xs h.1)

  turned_back : (xs : List X) → AllByRecursion (λ x. p x ≡ false) xs → AllByRecursion (λ x. not (p x) ≡ true) xs
  turned_back [] h = tt
  turned_back (x ∷ xs) h = (ap not h.0, turned_back xs h.1)

  -- and the parts of what they make are these
  pub first_part : (firsts more xs : List X) → AllByRecursion (λ x. p x ≡ true) firsts
      → AllByRecursion (λ x. p x ≡ false) more → IsPermutation (firsts ++ more) xs → IsPermutation (filter p xs) firsts
  first_part firsts more xs pass fail same =
      subst (IsPermutation (filter p xs))
      (filter-append p firsts more ∙ ap₂ ◌++◌ (filter_all p firsts pass) (filter_none p more fail)
      ∙ append-nil firsts)
      (IsPermutation-sym _ _ (IsPermutation-filter p _ _ same))

  pub other_part : (firsts more xs : List X) → AllByRecursion (λ x. p x ≡ true) firsts
      → AllByRecursion (λ x. p x ≡ false) more → IsPermutation (firsts ++ more) xs → IsPermutation (others xs) more
  other_part firsts more xs pass fail same =
      subst (IsPermutation (others xs))
      (filter-append (λ x. not (p x)) firsts more
      ∙ ap₂ ◌++◌ (filter_none (λ x. not (p x)) firsts (turned firsts pass))
      (filter_all (λ x. not (p x)) more (turned_back more fail)))
      (IsPermutation-sym _ _ (IsPermutation-filter (λ x. not (p x)) _ _ same))

  -- the rows of a part
  pub rows_of_part : {R : Type 0} (f : X → R) (part items : List X) (rows : List R) → IsPermutation part items
      → IsPermutation (map f items) rows → IsPermutation (map f part) rows
  rows_of_part f part items rows same held =
      IsPermutation-trans (map f part) (map f items) rows (IsPermutation-map f part items same) held

  -- where all pass there are no others
  pub all_pass : (xs : List X) → AllByRecursion (λ x. p x ≡ true) xs → filter p xs ≡ xs
  all_pass xs pass = filter_all p xs pass

  pub none_left : (xs : List X) → AllByRecursion (λ x. p x ≡ true) xs → others xs ≡ []
  none_left xs pass = filter_none (λ x. not (p x)) xs (turned xs pass)

  -- what is so of all is so of a part, whose items pass
  pub of_part : (P Q : X → Type 0) → ((x : X) → p x ≡ true → P x → Q x) → (xs : List X) → AllByRecursion P xs
      → AllByRecursion Q (filter p xs)
  of_part P Q h xs all = all_from Q (filter p xs) (λ x there.
      let it = has_filtered p xs x there in h x it.1 (all_has P xs x all it.0))
