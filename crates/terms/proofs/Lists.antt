-- Lists, beyond what std has on them.
use Rattle.std.proofs.Common.{◌≡◌, ◌∙◌, ◌<◌, ◌+◌, ℕ, List, [], ◌∷◌, ◌++◌, ap, sym, refl, map, length, take, get_or}
use Rattle.std.specs.List.{flat_map, join_with_byte}
use Rattle.std.proofs.lemmas.List.{append-nil, take_more}
use Rattle.std.proofs.Common.{Bool, true, false, Contains, filter}
use Rattle.std.specs.Prelude.{if◌then◌else◌}
use Rattle.std.proofs.lemmas.List.Concat.{flat_map-append, flat_map_single}
use Rattle.terms.proofs.ListMembers.{here, there}

-- parts with a byte between them
pub joined : (b : ℕ) (x : List ℕ) (xs : List (List ℕ)) → x ++ flat_map (λ y. b ∷ y) xs ≡ join_with_byte b (x ∷ xs)
joined b x [] = append-nil x
joined b x (y ∷ ys) = ap (λ t. x ++ b ∷ t) (joined b y ys)

-- the items of a list's front and the next
pub front_more : {X : Type 0} (xs : List X) (k : ℕ) (x : X) → k < length xs → x ≡ get_or xs k x
    → take (k + 1) xs ≡ take k xs ++ x ∷ []
front_more xs k x below at = take_more xs k x below ∙ ap (λ v. take k xs ++ v ∷ []) (sym at)

-- pairs are made of their parts
pub same_pairs : {X Y : Type 0} (xs : List (X × Y)) → map (λ p. (p.0, p.1)) xs ≡ xs
same_pairs [] = refl
same_pairs (x ∷ xs) = ap (λ l. x ∷ l) (same_pairs xs)

-- functions that agree on the items of a list make the same list of it
pub map_alike : {X Y : Type 0} (f h : X → Y) (xs : List X) → ((x : X) → Contains xs x → f x ≡ h x) → map f xs ≡ map h xs
map_alike f h [] same = refl
map_alike f h (x ∷ xs) same = ap (λ y. y ∷ map f xs) (same x (here x xs))
    ∙ ap (λ ys. h x ∷ ys) (map_alike f h xs (λ z later. same z (there x xs z later)))

-- what lists of all items hold together, at one item more
pub flat_next : {X Y : Type 0} (f : X → List Y) (xs : List X) (i : ℕ) (x : X) → i < length xs → x ≡ get_or xs i x
    → flat_map f (take (i + 1) xs) ≡ flat_map f (take i xs) ++ f x
flat_next f xs i x below at = ap (flat_map f) (front_more xs i x below at)
    ∙ flat_map-append f (take i xs) (x ∷ []) ∙ ap (λ l. flat_map f (take i xs) ++ l) (append-nil (f x))

-- what the items hold that pass, the others nothing
pub flat_if : {X Y : Type 0} (p : X → Bool) (f : X → List Y) (xs : List X)
    → flat_map (λ x. if p x then f x else []) xs ≡ flat_map f (filter p xs)
flat_if p f [] = refl
flat_if p f (x ∷ xs) = by (p x) refl (flat_if p f xs)
  where
    by : (b : Bool) → p x ≡ b → flat_map (λ x. if p x then f x else []) xs ≡ flat_map f (filter p xs)
        → flat_map (λ x. if p x then f x else []) (x ∷ xs) ≡ flat_map f (filter p (x ∷ xs))
    by true e rest = rw e (ap (λ ys. f x ++ ys) rest)
    by false e rest = rw e rest

pub flat_if_single : {X Y : Type 0} (p : X → Bool) (f : X → Y) (xs : List X)
    → flat_map (λ x. if p x then f x ∷ [] else []) xs ≡ map f (filter p xs)
flat_if_single p f xs = flat_if p (λ x. f x ∷ []) xs ∙ flat_map_single f (filter p xs)
