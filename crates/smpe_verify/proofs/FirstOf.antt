-- A search that goes through a list item by item.
use Rattle.std.proofs.Common.{◌≡◌, ◌∙◌, ◌<◌, ◌≤◌, ◌+◌, ℕ, List, Option, Some, None, drop, get_or, length, sym, ap}
use Rattle.std.specs.Option.{option_or}
use Rattle.std.proofs.lemmas.List.{drop_more, drop_all}
use Rattle.smpe_verify.specs.FirstBreach.{first_of}

module _ {X Y : Type 0} (f : X → Option Y) (xs : List X) (k : ℕ) where
  at : (x : X) → k < length xs → x ≡ get_or xs k x → (o : Option Y) → f x ≡ o
      → first_of f (drop k xs) ≡ option_or o (first_of f (drop (k + 1) xs))
  at x below is o found =
      ap (first_of f) (drop_more xs k x below) ∙ ap (λ y. option_or (f y) (first_of f (drop (k + 1) xs))) (sym is)
      ∙ ap (λ a. option_or a (first_of f (drop (k + 1) xs))) found

  -- this item has none
  pub passes : (x : X) → k < length xs → x ≡ get_or xs k x → f x ≡ None
      → first_of f (drop k xs) ≡ first_of f xs → first_of f (drop (k + 1) xs) ≡ first_of f xs
  passes x below is none before = sym (at x below is None none) ∙ before

  -- this item has one
  pub stops : (x : X) (y : Y) → k < length xs → x ≡ get_or xs k x → f x ≡ Some y
      → first_of f (drop k xs) ≡ first_of f xs → Some y ≡ first_of f xs
  stops x y below is some before = sym (at x below is (Some y) some) ∙ before

  -- no item has one
  pub ends : length xs ≤ k → first_of f (drop k xs) ≡ first_of f xs → None ≡ first_of f xs
  ends all before = sym (ap (first_of f) (drop_all k xs all)) ∙ before
