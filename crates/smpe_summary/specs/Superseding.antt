-- Which SYSMODs supersede an id.
use Rattle.std.specs.Prelude.{◌≡◌, ◌↔◌, List, Contains}
use Rattle.terms.specs.Types.{Id}
use Rattle.terms.specs.Choice.{Choice}
use Rattle.terms.specs.Over.{Supersedes}

-- y supersedes x, and the value is y (as lists by id have it)
abbrev pub SupersedesBy : Choice → Id → Id → Id → Type 0
SupersedesBy c y x value = Supersedes c y x × (value ≡ y)

-- for each id, those that go on and supersede it by the ++VERs that count
abbrev pub AreSuperseders : Choice → List Id → (Id → List Id) → Type 0
AreSuperseders c going supers = (x y : Id) → Contains (supers x) y ↔ (Contains going y × Supersedes c y x)
