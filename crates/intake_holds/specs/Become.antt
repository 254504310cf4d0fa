-- What one list becomes, item by item, when each item becomes some items of two others.
use Rattle.std.specs.Prelude.{◌≡◌, List, [], ◌∷◌, ◌++◌}

-- Each of xs becomes some items of the one list and some of the other, and the two lists are all of these, in order.
abbrev pub Become : {X A B : Type 0} → (X → List A → List B → Type 0) → List X → List A → List B → Type 0
Become R [] ones others = (ones ≡ []) × (others ≡ [])
Become {X} {A} {B} R (x ∷ xs) ones others = (one more_ones : List A) × (other more_others : List B)
    × (ones ≡ one ++ more_ones) × (others ≡ other ++ more_others) × R x one other × Become R xs more_ones more_others
