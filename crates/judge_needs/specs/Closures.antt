-- The needed ids that SYSMODs supersede.
use Rattle.std.specs.Prelude.{◌↔◌, ◌⊎◌, List, Contains}
use Rattle.terms.specs.Types.{Id}
use Rattle.terms.specs.Choice.{Choice, sup_of}
use Rattle.terms.specs.Over.{Supersedes}
use Rattle.judge_needs.specs.declared.superseded.Closure.{Closure}

-- x supersedes the id, which is needed
abbrev pub SupersedesOne : Choice → List Id → Id → Id → Type 0
SupersedesOne c needed x z = Contains needed z × Supersedes c x z

-- it has the needed ids that its SYSMOD supersedes
abbrev pub IsClosure : Choice → List Id → Closure → Type 0
IsClosure c needed k = (z : Id) → Contains k.ids z ↔ SupersedesOne c needed k.id z

-- the needed ids that x supersedes are added
abbrev pub AddsBelow : Choice → List Id → Id → List Id → List Id → Type 0
AddsBelow c needed x old new = (z : Id) → Contains new z ↔ (Contains old z ⊎ SupersedesOne c needed x z)

-- some of these ids, one of which names each other one in SUP
pub record AreEnough (c : Choice) (xs some : List Id) : Type 0 where
  pub of : (x : Id) → Contains some x → Contains xs x
  pub all : (x : Id) → Contains xs x → Contains some x ⊎ ((y : Id) × Contains some y × Contains (sup_of c y) x)
