-- Which candidates may not change an element that another one changes.
use Rattle.std.specs.Prelude.{◌≡◌, ◌≢◌, ◌↔◌, ◌<◌, ◌≤◌, ◌⊎◌, ℕ, Bool, IsTrue, List, ◌++◌, Some, All, AllPairs}
use Rattle.std.specs.Prelude.{Contains}
use Rattle.std.specs.Prelude.{take, drop, slice_get, length}
use Rattle.terms.specs.declared.kinds.ElemType.{ElemType}
use Rattle.terms.specs.Types.{Text, Id, Global}
use Rattle.terms.specs.Choice.{Choice}
use Rattle.terms.specs.Over.{IsOver, owner}
use Rattle.terms.specs.Tests.{ShareElement}
use Rattle.judge_faults.specs.declared.own.OwnFaults.{OwnFaults}
use Rattle.judge_faults.specs.declared.claims.Claim.{Claim}
use Rattle.judge_faults.specs.Claims.{PassesAt}

-- they have two owners, or neither is over the other
abbrev pub StandApart : Global → Choice → Id → Id → Type 0
StandApart g c x y = (owner g c x ≢ owner g c y) ⊎ ((¬ IsOver c x y) × (¬ IsOver c y x))

-- two claims on one element clash
abbrev pub Clashes : Global → Choice → Claim → Claim → Type 0
Clashes g c a b = (a.id ≢ b.id) × StandApart g c a.id b.id

-- and claims on any elements
abbrev pub ClashesOnOne : Global → Choice → Claim → Claim → Type 0
ClashesOnOne g c a b = (a.element ≡ b.element) × Clashes g c a b

-- the marks are the old ones and these
abbrev pub Marks : (ℕ → Type 0) → List ℕ → List ℕ → Type 0
Marks More old new = (n : ℕ) → Contains new n ↔ (Contains old n ⊎ More n)

-- the place of one of two that clash
abbrev pub IsOfPair : Global → Choice → Claim → Claim → ℕ → Type 0
IsOfPair g c a b n = Clashes g c a b × ((n ≡ a.place) ⊎ (n ≡ b.place))

-- the place of the claim or of one of these others, which clash
abbrev pub IsAgainst : Global → Choice → Claim → List Claim → ℕ → Type 0
IsAgainst g c a others n = (b : Claim) × Contains others b × IsOfPair g c a b n

-- the place of a claim that clashes with another one of the list
pub record IsAmong (R : Claim → Claim → Type 0) (claims : List Claim) (n : ℕ) : Type 0 where
  pub a : Claim
  pub b : Claim
  pub own : Contains claims a
  pub other : Contains claims b
  pub clash : R a b
  pub place : n ≡ a.place

-- one owner, and the second is over the first
abbrev pub IsBelow : Global → Choice → Claim → Claim → Type 0
IsBelow g c a b = (owner g c a.id ≡ owner g c b.id) × IsOver c b.id a.id

-- each claim is over those before it
abbrev pub IsChain : Global → Choice → List Claim → Type 0
IsChain g c chain = AllPairs (IsBelow g c) chain

-- the claim fits into the chain at this place
pub record FitsAt (g : Global) (c : Choice) (chain : List Claim) (a : Claim) (k : ℕ) : Type 0 where
  pub within : k ≤ length chain
  pub front : All (λ b. IsBelow g c b a) (take k chain)
  pub back : All (λ b. IsBelow g c a b) (drop k chain)

-- these claims are marked
abbrev pub AllMarked : List Claim → List ℕ → Type 0
AllMarked claims marked = All (λ a. Contains marked a.place) claims

-- they are, if they are known to be
abbrev pub AreSettled : Bool → List Claim → List ℕ → Type 0
AreSettled known claims marked = IsTrue known → AllMarked claims marked

-- after these claims on one element: a chain of them, the others, whether these are known to be marked, and the marks
-- since some earlier claims
pub record AreMarked (g : Global) (c : Choice) (claims chain others : List Claim) (known : Bool)
    (before shared : List ℕ) : Type 0 where
  pub members : (a : Claim) → Contains (chain ++ others) a ↔ Contains claims a
  pub ordered : IsChain g c chain
  pub settled : AreSettled known others shared
  pub marks : Marks (IsAmong (Clashes g c) claims) before shared

-- the claims from the place on, up to the end, are those on one element
pub record IsRun (claims : List Claim) (start end : ℕ) : Type 0 where
  pub element : ElemType × Text
  pub more : start < end
  pub within : end ≤ length claims
  pub same : (i : ℕ) (a : Claim) → slice_get claims i ≡ Some a → start ≤ i → i < end → a.element ≡ element
  pub ends : (a : Claim) → slice_get claims end ≡ Some a → a.element ≢ element

-- the candidate at the place passes the tests of its own, and so does another one; both change an element that they may
-- not share
pub record IsClashing (g : Global) (c : Choice) (ids : List Id) (faults : List OwnFaults) (n : ℕ) : Type 0 where
  pub x : Id
  pub passes : PassesAt ids faults n x
  pub place : ℕ
  pub y : Id
  pub other : PassesAt ids faults place y
  pub apart : x ≢ y
  pub element : ShareElement g x y
  pub may_not : StandApart g c x y
