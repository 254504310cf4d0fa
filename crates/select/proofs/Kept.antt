-- What a filter keeps, and tests of what it keeps.
use Rattle.std.proofs.Common.{◌≡◌, Bool, true, false, ◌&&◌, ◌||◌, List, [], ◌∷◌, ◌++◌, Option, None, Some}
use Rattle.std.proofs.Common.{map, filter, cond, refl, sym, ap, ◌∙◌}
use Rattle.std.specs.List.{list_any, flat_map, filter_map, cons_option}
use Rattle.std.proofs.lemmas.List.Folds.{list_any-append}
use Rattle.terms.specs.Lookups.{at_most_one}

-- a test of the items of what is kept
pub any_kept : {X Y : Type 0} (p : X → Bool) (f : X → List Y) (q : Y → Bool) (xs : List X)
    → list_any (λ x. p x && list_any q (f x)) xs ≡ list_any q (flat_map f (filter p xs))
any_kept p f q [] = refl
any_kept p f q (x ∷ xs) = by (any_kept p f q xs) (p x)
  where
    by : list_any (λ x. p x && list_any q (f x)) xs ≡ list_any q (flat_map f (filter p xs)) → (b : Bool)
        → ((b && list_any q (f x)) || list_any (λ x. p x && list_any q (f x)) xs) ≡ list_any q
        (flat_map f (cond b (x ∷ filter p xs) (filter p xs)))
    by rest true = ap (λ r. list_any q (f x) || r) rest ∙ sym (list_any-append q (f x) (flat_map f (filter p xs)))
    by rest false = rest

-- what some of the items have
pub some_kept : {X Y : Type 0} (f : X → Option Y) (xs : List X)
    → filter_map f xs ≡ flat_map (λ x. at_most_one (f x)) xs
some_kept f [] = refl
some_kept {Y = Y} f (x ∷ xs) = by (some_kept f xs) (f x)
  where
    by : filter_map f xs ≡ flat_map (λ x. at_most_one (f x)) xs → (o : Option Y)
        → cons_option o (filter_map f xs) ≡ at_most_one o ++ flat_map (λ x. at_most_one (f x)) xs
    by rest None = rest
    by rest (Some y) = ap (λ ys. y ∷ ys) rest

-- what each of some items has, by what stands for it
pub flat_mapped : {X Y Z : Type 0} (f : Y → List Z) (g : X → Y) (xs : List X)
    → flat_map f (map g xs) ≡ flat_map (λ x. f (g x)) xs
flat_mapped f g [] = refl
flat_mapped f g (x ∷ xs) = ap (λ zs. f (g x) ++ zs) (flat_mapped f g xs)

-- what is kept by it
pub kept_mapped : {X Y : Type 0} (p : Y → Bool) (g : X → Y) (xs : List X)
    → map g (filter (λ x. p (g x)) xs) ≡ filter p (map g xs)
kept_mapped p g [] = refl
kept_mapped p g (x ∷ xs) = by (kept_mapped p g xs) (p (g x))
  where
    by : map g (filter (λ x. p (g x)) xs) ≡ filter p (map g xs) → (b : Bool)
        → map g (cond b (x ∷ filter (λ x. p (g x)) xs) (filter (λ x. p (g x)) xs))
        ≡ cond b (g x ∷ filter p (map g xs)) (filter p (map g xs))
    by rest true = ap (λ ys. g x ∷ ys) rest
    by rest false = rest
