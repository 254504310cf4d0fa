-- What stands in a list.
use Rattle.std.proofs.Common.{List, ◌∷◌, refl, arith, suc, ◌≡◌, zero, inl, inr, ◌⊎◌, [], ◌++◌, ap, ◌≢◌, map, subst}
use Rattle.std.proofs.Common.{Bool, true, false, filter, Contains, sym, ◌∙◌, true≢false}
use Rattle.std.specs.List.{flat_map}
use Rattle.std.proofs.lemmas.List.Elements.{Contains-append_left, Contains-append_right, Contains-append_cases}
use Rattle.std.proofs.lemmas.List.Elements.{All-filter, Contains-get_or, filter_passes}

pub here : {X : Type 0} (x : X) (xs : List X) → Contains (x ∷ xs) x
here x xs = (0, omega arith, refl)

pub there : {X : Type 0} (y : X) (xs : List X) (x : X) → Contains xs x → Contains (y ∷ xs) x
there y xs x h = (suc h.0, omega arith, h.2)

pub here_or : {X : Type 0} (y : X) (xs : List X) (x : X) → Contains (y ∷ xs) x → (y ≡ x) ⊎ Contains xs x
here_or y xs x (zero, below, is) = inl is
here_or y xs x (suc k, below, is) = inr (k, omega arith, is)

pub none_in : {X : Type 0} (x : X) → Contains [] x → ⊥
none_in x h = omega (arith, h.1)

-- a list that is known to have nothing
pub none_in_nil : {A X : Type 0} (xs : List X) (x : X) → xs ≡ [] → Contains xs x → A
none_in_nil xs x nil h = absurd (none_in x (subst (λ l. Contains l x) nil h))

-- where an item stands
pub parts : {X : Type 0} (xs : List X) (x : X) → Contains xs x → (front back : List X) × (xs ≡ front ++ x ∷ back)
parts [] x h = absurd (none_in x h)
parts (y ∷ xs) x h =
    elim (here_or y xs x h) [
      | inl same ↦ ([], xs, ap (λ a. a ∷ xs) same)
      | inr later ↦ let p = parts xs x later in (y ∷ p.0, p.1, ap (λ l. y ∷ l) p.2)
    ]

-- an item but that one
pub but : {X : Type 0} (front back : List X) (x z : X) → x ≢ z → Contains (front ++ x ∷ back) z
    → Contains (front ++ back) z
but front back x z other h =
    elim (Contains-append_cases front (x ∷ back) z h) [
      | inl before ↦ Contains-append_left front back z before
      | inr after ↦ elim (here_or x back z after) [
        | inl same ↦ absurd (other same)
        | inr later ↦ Contains-append_right
            front back z later
      ]
    ]

-- what stands in the image of a list
pub in_map : {X Y : Type 0} (f : X → Y) (xs : List X) (x : X) → Contains xs x → Contains (map f xs) (f x)
in_map f [] x h = absurd (none_in x h)
in_map f (y ∷ xs) x h =
    elim (here_or y xs x h) [
      | inl same ↦ subst (λ t. Contains (map f (y ∷ xs)) t) (ap f same) (here (f y) (map f xs))
      | inr later ↦ there (f y) (map f xs) (f x) (in_map f xs x later)
    ]

pub map_in : {X Y : Type 0} (f : X → Y) (xs : List X) (t : Y) → Contains (map f xs) t
    → (x : X) × Contains xs x × (f x ≡ t)
map_in f [] t h = absurd (none_in t h)
map_in f (y ∷ xs) t h =
    elim (here_or (f y) (map f xs) t h) [
      | inl same ↦ (y, here y xs, same)
      | inr later ↦ let m = map_in f xs t later in (m.0, there y xs m.0 m.1, m.2)
    ]

-- what stands in what a filter keeps
pub in_filter : {X : Type 0} (p : X → Bool) (xs : List X) (x : X) → Contains xs x → p x ≡ true
    → Contains (filter p xs) x
in_filter p [] x at passes = absurd (none_in x at)
in_filter {X} p (y ∷ ys) x at passes = by (in_filter p ys x) (here_or y ys x at) (p y) refl
  where
    by : (Contains ys x → p x ≡ true → Contains (filter p ys) x) → (y ≡ x) ⊎ Contains ys x → (b : Bool) → p y ≡ b
        → Contains (filter p (y ∷ ys)) x
    by again (inl same) true e = rw e (subst (Contains (y ∷ filter p ys)) same (here y (filter p ys)))
    by again (inl same) false e = absurd (true≢false (sym passes ∙ ap p (sym same) ∙ e))
    by again (inr rest) true e = rw e (there y (filter p ys) x (again rest passes))
    by again (inr rest) false e = rw e (again rest passes)

pub filter_in : {X : Type 0} (p : X → Bool) (xs : List X) (x : X) → Contains (filter p xs) x
    → Contains xs x × (p x ≡ true)
filter_in {X} p xs x at = (
  subst (Contains xs) at.2 (All-filter p (Contains xs) xs (λ i d below. Contains-get_or xs i d below) at.0 x at.1),
  subst (λ y. p y ≡ true) at.2 (filter_passes p xs at.0 x at.1),
)

pub in_middle : {X : Type 0} (before : List X) (x : X) (after : List X) → Contains (before ++ x ∷ after) x
in_middle before x after = Contains-append_right before (x ∷ after) x (here x after)

-- what the lists of all items hold together
pub flat_in : {X Y : Type 0} (f : X → List Y) (xs : List X) (y : Y) → Contains (flat_map f xs) y
    → (x : X) × Contains xs x × Contains (f x) y
flat_in f [] y h = absurd (none_in y h)
flat_in f (x ∷ xs) y h = elim (Contains-append_cases (f x) (flat_map f xs) y h) [
  | inl first ↦ (x, here x xs, first)
  | inr rest ↦ let more = flat_in f xs y rest in (more.0, there x xs more.0 more.1, more.2)
]

pub in_flat : {X Y : Type 0} (f : X → List Y) (xs : List X) (x : X) (y : Y) → Contains xs x → Contains (f x) y
    → Contains (flat_map f xs) y
in_flat f [] x y h within = absurd (none_in x h)
in_flat f (z ∷ xs) x y h within = elim (here_or z xs x h) [
  | inl same ↦ Contains-append_left (f z) (flat_map f xs) y (subst (λ w. Contains (f w) y) (sym same) within)
  | inr rest ↦ Contains-append_right (f z) (flat_map f xs) y (in_flat f xs x y rest within)
]
