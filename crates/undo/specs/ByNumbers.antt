-- The steps with numbers instead of SYSMODs and elements.
use Rattle.std.specs.Prelude.{◌≡◌, ◌↔◌, ◌<◌, ℕ, Bool, List, Some, [], ◌∷◌, ◌++◌, map, slice_get, Contains, IsTrue}
use Rattle.terms.specs.Types.{Id}
use Rattle.solve.specs.System.{holds}
use Rattle.solve.specs.Least.{Rule, Growth}
use Rattle.undo.specs.declared.nodes.Node.{Node}
use Rattle.undo.specs.declared.nodes.Node.TheVariants.{Sysmod, Element}
use Rattle.undo.specs.declared.nodes.Step.{Step as RustStep}
use Rattle.undo.specs.Steps.{Step, is_start, IsReached}

-- the numbers are the places of these
pub record ArePlaces (table these : List Node) (places : List ℕ) : Type 0 where
  pub there : (m : Node) → Contains these m → (i : ℕ) × Contains places i × (slice_get table i ≡ Some m)
  pub only : (i : ℕ) → Contains places i → (m : Node) × Contains these m × (slice_get table i ≡ Some m)

-- the rule is the step by the places
pub record IsNumbered (table : List Node) (s : Step) (r : Rule) : Type 0 where
  pub these : ArePlaces table s.these r.these
  pub that : slice_get table r.that ≡ Some s.that

-- the rules are the steps
pub record AreNumberedRules (table : List Node) (steps : List Step) (rules : List Rule) : Type 0 where
  pub there : (s : Step) → Contains steps s → (r : Rule) × Contains rules r × IsNumbered table s r
  pub only : (r : Rule) → Contains rules r → (s : Step) × Contains steps s × IsNumbered table s r

-- the SYSMODs and elements of a step
abbrev pub nodes_in : RustStep → List Node
nodes_in s = s.these.items ++ s.that ∷ []

-- the table contains all SYSMODs and elements of a step
pub record Covers (table : List Node) (s : RustStep) : Type 0 where
  pub these : (n : Node) → Contains s.these.items n → Contains table n
  pub that : Contains table s.that

-- the numbered system
pub record IsGrowth (table : List Node) (ids : List Id) (steps : List Step) (g : Growth) : Type 0 where
  pub start : g.start ≡ map (is_start ids) table
  pub rules : AreNumberedRules table steps g.rules

-- the system with one more rule
pub record AddsRule (table : List Node) (s : Step) (old new : Growth) : Type 0 where
  pub rule : Rule
  pub numbered : IsNumbered table s rule
  pub new_is : new ≡ record old { rules = old.rules ++ rule ∷ [] }

-- the SYSMOD, if it is one
abbrev pub sysmod_in : Node → List Id
sysmod_in (Sysmod x) = x ∷ []
sysmod_in (Element type name) = []

-- the SYSMOD is at the place and has the flag
abbrev pub IsFlagged : List Node → List Bool → Id → ℕ → Type 0
IsFlagged table flags x i = (slice_get table i ≡ Some (Sysmod x)) × IsTrue (holds flags i)

-- the ids of the flagged SYSMODs, up to a place
abbrev pub AreFlagged : List Node → List Bool → ℕ → List Id → Type 0
AreFlagged table flags k found = (x : Id) → Contains found x ↔ ((i : ℕ) × (i < k) × IsFlagged table flags x i)

-- the ids that are reached
abbrev pub AreReached : List Id → List Step → List Id → Type 0
AreReached ids steps found = (x : Id) → Contains found x ↔ IsReached ids steps (Sysmod x)
