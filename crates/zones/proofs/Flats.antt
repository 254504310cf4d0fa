-- Filters and lists of lists.
use Rattle.std.proofs.Common.{◌≡◌, Bool, true, false, List, [], ◌∷◌, ◌++◌, filter, map, refl, sym, ap, ◌∙◌}
use Rattle.std.specs.Prelude.{if◌then◌else◌}
use Rattle.std.specs.List.{flat_map}
use Rattle.std.proofs.lemmas.List.Elements.{filter-append}

-- the filtered lists of the images of items that pass
pub filter_flat_map : {X Y Z : Type 0} (p : Z → Bool) (f : Y → List Z) (h : X → Y) (q : X → Bool) (xs : List X)
    → filter p (flat_map f (map h (filter q xs))) ≡ flat_map (λ x. if q x then filter p (f (h x)) else []) xs
filter_flat_map p f h q [] = refl
filter_flat_map p f h q (x ∷ xs) = by (filter_flat_map p f h q xs) (q x) refl
  where
    by : filter p (flat_map f (map h (filter q xs))) ≡ flat_map (λ x. if q x then filter p (f (h x)) else []) xs
        → (b : Bool) → q x ≡ b
        → filter p (flat_map f (map h (filter q (x ∷ xs))))
        ≡ flat_map (λ x. if q x then filter p (f (h x)) else []) (x ∷ xs)
    by rest true e = rw e (filter-append p (f (h x)) (flat_map f (map h (filter q xs)))
        ∙ ap (λ ys. filter p (f (h x)) ++ ys) rest)
    by rest false e = rw e rest

-- a filter after a weaker one
pub filter_weaker : {X : Type 0} (p q : X → Bool) → ((x : X) → p x ≡ true → q x ≡ true) → (xs : List X)
    → filter p (filter q xs) ≡ filter p xs
filter_weaker p q weaker [] = refl
filter_weaker {X} p q weaker (x ∷ xs) = by (filter_weaker p q weaker xs) (p x) refl (q x) refl
  where
    by : filter p (filter q xs) ≡ filter p xs → (a : Bool) → p x ≡ a → (b : Bool) → q x ≡ b
        → filter p (filter q (x ∷ xs)) ≡ filter p (x ∷ xs)
    by rest true e true f = rw (f, e) (ap (λ ys. x ∷ ys) rest)
    by rest false e true f = rw (f, e) rest
    by rest true e false f = let impossible : true ≡ false = sym (weaker x e) ∙ f in cc
    by rest false e false f = rw (f, e) rest
