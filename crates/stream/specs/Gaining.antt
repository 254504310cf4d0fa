-- Lists that gain items, in any order.
use Rattle.std.specs.Prelude.{◌↔◌, ◌⊎◌, List, Contains}

module _ {X : Type 0} where
  -- the items are the old ones and these
  abbrev pub Gains : (X → Type 0) → List X → List X → Type 0
  Gains More old new = (x : X) → Contains new x ↔ (Contains old x ⊎ More x)

  -- what one of a list contributes
  abbrev pub OneOf : {Y : Type 0} → List Y → (Y → X → Type 0) → X → Type 0
  OneOf {Y} ys P x = (y : Y) × Contains ys y × P y x
