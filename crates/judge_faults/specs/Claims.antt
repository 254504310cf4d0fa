-- What the candidates change that pass the tests of their own.
use Rattle.std.specs.Prelude.{◌≡◌, ◌↔◌, ◌<◌, ℕ, List, Some, IsTrue, Contains, map, slice_get}
use Rattle.terms.specs.declared.kinds.ElemType.{ElemType}
use Rattle.terms.specs.Types.{Text, Id, Global}
use Rattle.terms.specs.Lookups.{changes_of, change_key}
use Rattle.judge_faults.specs.declared.own.OwnFaults.{OwnFaults}
use Rattle.judge_faults.specs.declared.claims.Claim.{Claim}
use Rattle.judge_faults.specs.Own.{passes}

-- a candidate, with its place, changes this element
abbrev pub a_claim : ElemType × Text → Id → ℕ → Claim
a_claim key x n = record { element = key; id = x; place = n }

-- the candidate at the place passes the tests of its own
pub record PassesAt (ids : List Id) (faults : List OwnFaults) (n : ℕ) (x : Id) : Type 0 where
  pub at : slice_get ids n ≡ Some x
  pub own : OwnFaults
  pub own_at : slice_get faults n ≡ Some own
  pub passing : IsTrue (passes own)

-- and changes the element
pub record HasClaim (g : Global) (ids : List Id) (faults : List OwnFaults) (end : ℕ) (key : ElemType × Text) (x : Id)
    (n : ℕ) : Type 0 where
  pub below : n < end
  pub by : PassesAt ids faults n x
  pub changes : Contains (map change_key (changes_of g x)) key

-- the claims are those of the candidates before a place
abbrev pub AreClaims : Global → List Id → List OwnFaults → ℕ → List Claim → Type 0
AreClaims g ids faults end claims =
    (key : ElemType × Text) (x : Id) (n : ℕ) → Contains claims (a_claim key x n)
    ↔ HasClaim g ids faults end key x n

-- the claims on one element are side by side
abbrev pub AreGrouped : List Claim → Type 0
AreGrouped claims =
    (i j k : ℕ) (a b d : Claim) → slice_get claims i ≡ Some a → slice_get claims j ≡ Some b
    → slice_get claims k ≡ Some d → i < j → j < k → a.element ≡ d.element → b.element ≡ a.element
