-- Pairs of a candidate and an id: its bypassed requisites, and the needed ids that it supersedes.
use Rattle.std.specs.Prelude.{◌≡◌, ◌↔◌, ◌⊎◌, List, Contains, IsTrue}
use Rattle.terms.specs.Types.{Id}
use Rattle.terms.specs.Choice.{Choice}
use Rattle.terms.specs.Over.{Supersedes}
use Rattle.terms.specs.Tests.{Setting}
use Rattle.terms.specs.Needs.{bypassed_ids, takes_superseder}
use Rattle.judge_system.specs.declared.stated.RequisiteOf.{RequisiteOf}

-- the pairs of an id with these are added
abbrev pub AddsBy : Id → (Id → Type 0) → List (Id × Id) → List (Id × Id) → Type 0
AddsBy x Of old new = (y z : Id) → Contains new (y, z) ↔ (Contains old (y, z) ⊎ ((y ≡ x) × Of z))

abbrev pub AddsPairs : Id → List Id → List (Id × Id) → List (Id × Id) → Type 0
AddsPairs x more old new = AddsBy x (Contains more) old new

-- the pairs are those of these candidates
abbrev pub ArePairs : (Id → Id → Type 0) → List Id → List (Id × Id) → Type 0
ArePairs Of xs pairs = (x z : Id) → Contains pairs (x, z) ↔ (Contains xs x × Of x z)

-- the pairs of these candidates with their bypassed requisites
abbrev pub AreBypassed : Setting → List Id → List (Id × Id) → Type 0
AreBypassed s xs pairs = ArePairs (λ x. Contains (bypassed_ids s x)) xs pairs

-- some candidate needs the id, and a superseder serves that need
abbrev pub IsNeeded : List RequisiteOf → Id → Type 0
IsNeeded needs z = (w : RequisiteOf) × Contains needs w × IsTrue (takes_superseder w.kind) × (w.id ≡ z)

-- the pairs of these candidates with the ids that they supersede, among those that some candidate needs
abbrev pub AreSuperseded : Choice → List RequisiteOf → List Id → List (Id × Id) → Type 0
AreSuperseded c needs xs pairs = ArePairs (λ x z. IsNeeded needs z × Supersedes c x z) xs pairs
