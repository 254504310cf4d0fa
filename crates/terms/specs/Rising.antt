-- Lists that rise by a key, no key twice, as lists of ids and the entries of a zone do.
use Rattle.std.specs.Prelude.{◌≡◌, ℕ, suc, List, [], ◌∷◌, ◌++◌, take, drop, All, AllPairs, filter, IsTrue}
use Rattle.std.specs.Prelude.{slice_index_or}
use Rattle.std.specs.declared.cmp.Ordering.{Ordering}
use Rattle.std.specs.declared.cmp.Ordering.TheVariants.{Less, Equal}
use Rattle.std.specs.Ordering.{is_lt}

-- the keys rise, none twice
abbrev pub Rises : {X K : Type 0} → (K → K → Ordering) → (X → K) → List X → Type 0
Rises cmp key xs = AllPairs (λ x y. IsTrue (is_lt (cmp (key x) (key y)))) xs

-- the items before a key
abbrev pub before : {X K : Type 0} → (K → K → Ordering) → (X → K) → K → List X → List X
before cmp key k xs = filter (λ x. is_lt (cmp (key x) k)) xs

-- the items after a key
abbrev pub behind : {X K : Type 0} → (K → K → Ordering) → (X → K) → K → List X → List X
behind cmp key k xs = filter (λ x. is_lt (cmp k (key x))) xs

-- the list with the item at its place, instead of one of the same key
abbrev pub with_item : {X K : Type 0} → (K → K → Ordering) → (X → K) → List X → X → List X
with_item cmp key xs x = before cmp key (key x) xs ++ x ∷ [] ++ behind cmp key (key x) xs

-- the list without the item of the key
abbrev pub without_key : {X K : Type 0} → (K → K → Ordering) → (X → K) → List X → K → List X
without_key cmp key xs k = before cmp key k xs ++ behind cmp key k xs

-- the front comes before the key, and the back after it
pub record Splits {X K : Type 0} (cmp : K → K → Ordering) (key : X → K) (k : K) (front back : List X) : Type 0 where
  pub low : All (λ x. cmp (key x) k ≡ Less) front
  pub high : All (λ x. cmp k (key x) ≡ Less) back

-- x is at the place and has the key
pub record StandsAt {X K : Type 0} (cmp : K → K → Ordering) (key : X → K) (k : K) (xs : List X) (i : ℕ) (x : X) :
    Type 0 where
  pub tie : cmp (key x) k ≡ Equal
  pub parts : xs ≡ take i xs ++ x ∷ drop (suc i) xs
  pub at : (d : X) → slice_index_or xs i d ≡ x
