-- A search for the greatest set that counts, for each need, its living members.
use Rattle.std.specs.Prelude.{◌≡◌, ◌<◌, ◌≤◌, ◌+◌, ℕ, Bool, false, List, [], length, All, Vec, count_by}
use Rattle.std.specs.Prelude.{sum}
use Rattle.std.specs.List.{slice_index_or, sum_by}
use Rattle.std.specs.declared.alloc.Global.{Global}
use Rattle.solve.specs.System.{System, Need, holds}
use Rattle.solve.specs.declared.worklist.Board.{Board}
use Rattle.solve.specs.Parts.{HasEvery, IsWithin, count_of}
use Rattle.solve.specs.Rows.{row_at, times, one_if}

-- a need that no number serves is past the end
abbrev pub need_at : List Need → ℕ → Need
need_at needs k = slice_index_or needs k (record { of = 0; any = [] })

-- row x names a need as often as the need's list names x
abbrev pub AreServed : List Need → List (Vec ℕ Global) → Type 0
AreServed needs served = (x k : ℕ) → times k (row_at served x) ≡ times x (need_at needs k).any

-- how many of the need's members are eligible
abbrev pub eligible_in : System → Need → ℕ
eligible_in p d = count_by (holds p.eligible) d.any

-- a living candidate counts as one, and so does each strike that is still due for it
abbrev pub weight : List Bool → List ℕ → ℕ → ℕ
weight standing dropped x = one_if (holds standing x) + times x dropped

-- x no longer lives; if it did, its strikes are now due
pub record IsDrop (x : ℕ) (standing : List Bool) (dropped : List ℕ) (standing' : List Bool) (dropped' : List ℕ) :
    Type 0 where
  pub size : length standing' ≡ length standing
  pub out : holds standing' x ≡ false
  pub others : (y : ℕ) → (y ≡ x → ⊥) → holds standing' y ≡ holds standing y
  pub weights : (y : ℕ) → weight standing' dropped' y ≡ weight standing dropped y
  pub total : count_of standing' + length dropped' ≡ count_of standing + length dropped
  pub members : (n : ℕ) → x < n → All (λ y. y < n) dropped → All (λ y. y < n) dropped'

-- The strikes that are still due are on these needs. The candidate of a settled need with no living member does not
-- live.
pub record IsSearch (p : System) (due : List ℕ) (settled : ℕ → Type 0) (standing : List Bool) (living dropped : List ℕ)
    (strikes room : ℕ) : Type 0 where
  pub size : length standing ≡ p.size
  pub needs : length living ≡ length p.needs
  pub members : All (λ x. x < p.size) dropped
  pub total : count_of standing + length dropped ≤ p.size
  pub fits : p.size ≤ room
  pub every : HasEvery p standing
  pub within : IsWithin standing p.eligible
  pub counts : (k : ℕ) → k < length p.needs → slice_index_or living k 0 ≡ sum_by (weight standing dropped)
      (need_at p.needs k).any + times k due
  pub bare : (k : ℕ) → k < length p.needs → settled k → slice_index_or living k 0 ≡ 0
      → holds standing (need_at p.needs k).of ≡ false
  pub struck : strikes + sum living ≡ sum_by (eligible_in p) p.needs

-- all needs are settled
abbrev pub AtRest : System → List ℕ → Board → Type 0
AtRest p due b = IsSearch p due (λ k. Unit {0}) b.standing.items b.living.items b.dropped.items b.count.strikes
    b.dropped.cap

-- the needs below k are settled
abbrev pub SettledBelow : System → ℕ → Board → Type 0
SettledBelow p k b = IsSearch p [] (λ j. j < k) b.standing.items b.living.items b.dropped.items b.count.strikes
    b.dropped.cap

-- how many candidates live or have strikes that are still due
abbrev pub open_in : Board → ℕ
open_in b = count_of b.standing.items + length b.dropped.items
