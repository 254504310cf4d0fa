-- Lists by keys, and how they grow.
use Rattle.std.specs.Prelude.{◌≡◌, ◌≢◌, ◌++◌, ◌↔◌, ◌⊎◌, List, [], ◌∷◌, Some, Vec, Contains, if◌then◌else◌}
use Rattle.std.specs.declared.alloc.Global.{Global as Heap}
use Rattle.std.specs.declared.cmp.Ordering.{Ordering}
use Rattle.std.specs.List.{flat_map}
use Rattle.std.specs.Option.{option_map_or}
use Rattle.std.specs.Ordering.{is_eq}
use Rattle.std.specs.BTreeMap.{BTreeMap, get}

-- for each key some values
abbrev pub MultiMap : Type 0 → Type 0 → Type 0
MultiMap K V = BTreeMap K (Vec V Heap)

-- the contribution of one of these items to a key and a value
abbrev pub OneOf : {X K V : Type 0} → List X → (X → K → V → Type 0) → K → V → Type 0
OneOf {X} xs P k y = (x : X) × Contains xs x × P x k y

module _ {K V : Type 0} (cmp : K → K → Ordering) where
  -- the values of a key
  abbrev pub listed : MultiMap K V → K → List V
  listed all k = option_map_or (λ v. v.items) (get cmp all k) []

  -- each key in the lists has a value
  abbrev pub AreSome : MultiMap K V → Type 0
  AreSome all = (k : K) (v : Vec V Heap) → get cmp all k ≡ Some v → v.items ≢ []

  -- the key k has x as one value more
  pub record Adds (k : K) (x : V) (old new : MultiMap K V) : Type 0 where
    pub list : (q : K) → listed new q ≡ (if is_eq (cmp k q) then listed old q ++ x ∷ [] else listed old q)
    pub some : AreSome old → AreSome new

  -- x, once for each of these keys that is q
  abbrev pub once_each : List K → V → K → List V
  once_each ks x q = flat_map (λ k. if is_eq (cmp k q) then x ∷ [] else []) ks

  -- each key gets x once more for each time that it is among these keys
  pub record AddsToAll (ks : List K) (x : V) (old new : MultiMap K V) : Type 0 where
    pub list : (q : K) → listed new q ≡ listed old q ++ once_each ks x q
    pub some : AreSome old → AreSome new

  -- in any order, each key has the values that it had, and these besides
  abbrev pub Gains : MultiMap K V → MultiMap K V → (K → V → Type 0) → Type 0
  Gains old new More = (k : K) (y : V) → Contains (listed new k) y ↔ (Contains (listed old k) y ⊎ More k y)

  -- in any order, each key has these values
  abbrev pub Holds : MultiMap K V → (K → V → Type 0) → Type 0
  Holds all These = (k : K) (y : V) → Contains (listed all k) y ↔ These k y
