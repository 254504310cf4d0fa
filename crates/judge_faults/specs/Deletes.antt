-- What the candidates that pass the tests of their own name in DELETE, and which candidates that takes out.
use Rattle.std.specs.Prelude.{◌≡◌, ◌↔◌, ◌<◌, ◌&&◌, ℕ, Bool, List, Some, IsTrue, Contains, slice_get}
use Rattle.terms.specs.Types.{Id, Global}
use Rattle.terms.specs.Choice.{Choice, del_of}
use Rattle.terms.specs.Deleted.{is_deleted}
use Rattle.judge_faults.specs.declared.own.OwnFaults.{OwnFaults}
use Rattle.judge_faults.specs.Own.{passes_alone}

-- the candidate at the place passes the tests of its own
pub record PassesAloneAt (ids : List Id) (faults : List OwnFaults) (n : ℕ) (x : Id) : Type 0 where
  pub at : slice_get ids n ≡ Some x
  pub own : OwnFaults
  pub own_at : slice_get faults n ≡ Some own
  pub passing : IsTrue (passes_alone own)

-- the candidates before a place that pass them
abbrev pub ArePassing : List Id → List OwnFaults → ℕ → List Id → Type 0
ArePassing ids faults end passing =
    (x : Id) → Contains passing x ↔ ((n : ℕ) × (n < end) × PassesAloneAt ids faults n x)

-- what all of them name in DELETE
abbrev pub AreDeletions : Choice → List Id → List OwnFaults → List Id → Type 0
AreDeletions c ids faults dels =
    (z : Id) → Contains dels z ↔ ((n : ℕ) × (y : Id) × PassesAloneAt ids faults n y × Contains (del_of c y) z)

-- the faults with ChainDeleted, given whether the chain contains one of the deletions
abbrev pub with_chain_deleted : Bool → OwnFaults → OwnFaults
with_chain_deleted is_deleted own = record own { chain_deleted = passes_alone own && is_deleted }

-- the faults of x, at a place, with ChainDeleted
pub record IsMarkedDeleted (g : Global) (c : Choice) (dels : List Id) (faults : List OwnFaults) (n : ℕ) (x : Id)
    (marked : OwnFaults) : Type 0 where
  pub own : OwnFaults
  pub own_at : slice_get faults n ≡ Some own
  pub is : marked ≡ with_chain_deleted (is_deleted g c dels x) own
