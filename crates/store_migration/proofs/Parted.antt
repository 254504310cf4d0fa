-- Rows that are parted by what they name.
use Rattle.std.proofs.Common.{◌≡◌, inl, inr, Bool, true, false, not, List, [], ◌∷◌, filter, IsPermutation}
use Rattle.std.proofs.Common.{refl, sym, ap, subst, ◌∙◌, true≢false}
use Rattle.std.specs.List.{AllByRecursion, flat_map}
use Rattle.std.proofs.lemmas.List.Sorted.{IsPermutation-refl, IsPermutation-sym, IsPermutation-trans}
use Rattle.std.proofs.lemmas.List.Sorted.{IsPermutation-append, IsPermutation-filter_both}
use Rattle.sqlite_rules.specs.Lists.{Has}
use Rattle.sqlite_rules.proofs.ListLemmas.{all_from, all_has, has_filtered}

module _ {X Y : Type 0} (rows : X → List Y) (names : X → Y → Bool) where
  -- no row names two of the items
  abbrev pub AreApart : X → List X → Type 0
  AreApart x xs = AllByRecursion (λ z. (y : Y) → names x y ≡ true → names z y ≡ false) xs

  abbrev pub AllApart : List X → Type 0
  AllApart [] = Unit {0}
  AllApart (x ∷ xs) = AreApart x xs × AllApart xs

  -- one of the items is named
  abbrev pub IsNamed : List X → Y → Type 0
  IsNamed xs y = (x : X) × Has xs x × (names x y ≡ true)

  same_left : (x z : X) → ((y : Y) → names x y ≡ true → names z y ≡ false) → (ys : List Y)
      → filter (names z) (filter (λ y. not (names x y)) ys) ≡ filter (names z) ys
  same_left x z apart [] = refl
  same_left x z apart (y ∷ ys) = by (names x y) refl (names z y) refl (same_left x z apart ys)
    where
      by : (b : Bool) → names x y ≡ b → (c : Bool) → names z y ≡ c
          → filter (names z) (filter (λ w. not (names x w)) ys) ≡ filter (names z) ys
          → filter (names z) (filter (λ w. not (names x w)) (y ∷ ys)) ≡ filter (names z) (y ∷ ys)
      by true e true f rest = absurd (true≢false (sym f ∙ apart y e))
      by true e false f rest = rw (e, f) rest
      by false e true f rest = rw (e, f) (ap (λ l. y ∷ l) rest)
      by false e false f rest = rw (e, f) rest

  nothing_left : (ys : List Y) → ((y : Y) → Has ys y → IsNamed [] y) → ys ≡ []
  nothing_left [] all = refl
  nothing_left (y ∷ ys) all = absurd (all y (inl refl)).1

  rest_named : (x : X) (xs : List X) (y : Y) → not (names x y) ≡ true → IsNamed (x ∷ xs) y → IsNamed xs y
  rest_named x xs y other (z, inl here, named) =
      absurd (true≢false (sym other ∙ ap not (subst (λ w. names w y ≡ true) here named)))
  rest_named x xs y other (z, inr later, named) = (z, later, named)

  -- the rows of each are those that name it, and each row names one
  pub parted : (xs : List X) (ys : List Y) → AllApart xs
      → AllByRecursion (λ x. IsPermutation (rows x) (filter (names x) ys)) xs
      → ((y : Y) → Has ys y → IsNamed xs y) → IsPermutation (flat_map rows xs) ys
  parted [] ys apart each all = subst (IsPermutation []) (sym (nothing_left ys all)) (IsPermutation-refl [])
  parted (x ∷ xs) ys apart each all =
      let left = filter (λ y. not (names x y)) ys in
      let same = λ (z : X) (there : Has xs z). same_left x z
      (all_has (λ w. (y : Y) → names x y ≡ true → names w y ≡ false) xs z apart.0 there) ys in
      let own = parted xs left apart.1
      (all_from (λ z. IsPermutation (rows z) (filter (names z) left)) xs (λ z there.
      subst (IsPermutation (rows z)) (sym (same z there))
      (all_has (λ w. IsPermutation (rows w) (filter (names w) ys)) xs z each.1 there)))
      (λ y there.
      let it = has_filtered (λ w. not (names x w)) ys y there in
      rest_named x xs y it.1 (all y it.0)) in
      IsPermutation-trans _ _ _ (IsPermutation-append _ _ _ _ each.0 own)
      (IsPermutation-sym _ _ (IsPermutation-filter_both (names x) (λ y. not (names x y)) (λ y. refl) ys))
