-- The facts of a decision, by the numbers of the candidates.
use Rattle.std.specs.Prelude.{◌≡◌, ◌≢◌, ◌↔◌, ◌<◌, ℕ, Bool, false, List, [], Some, All, Any}
use Rattle.std.specs.Prelude.{Contains, IsTrue, length, map}
use Rattle.std.specs.Prelude.{slice_get, slice_index_or}
use Rattle.terms.specs.Beside.{Beside}
use Rattle.terms.specs.Types.{Id}
use Rattle.terms.specs.Lookups.{IsRising}
use Rattle.solve.specs.System.{Need, holds}
use Rattle.smpe_certificate.specs.declared.elimination.Dropped.{Dropped as Drop}
use Rattle.smpe_certificate.specs.Drops.{IsElimination}
use Rattle.judge_system.specs.declared.judged.Judged.{Judged}
use Rattle.judge_system.specs.declared.test_set.TestSet.{TestSet}
use Rattle.judge_system.specs.Numbered.{need_of}
use Rattle.judge_system.specs.TestSets.{tests_of}
use Rattle.smpe_certificate.specs.declared.facts.IneligibleFact.{IneligibleFact}
use Rattle.smpe_certificate.specs.declared.facts.ServedFact.{ServedFact}
use Rattle.smpe_certificate.specs.Facts.{Dropped, Certificate}

-- the test is one that the candidate at a place fails
pub record IsIneligibleAt (ids : List Id) (rows : List TestSet) (f : IneligibleFact) : Type 0 where
  pub place : ℕ
  pub set : TestSet
  pub at : slice_get ids place ≡ Some f.id
  pub tests : slice_get rows place ≡ Some set
  pub test : Contains (tests_of set) f.test

-- the candidates before a place that fail a test
pub record AreIneligible (ids : List Id) (rows : List TestSet) (end : ℕ) (facts : List IneligibleFact) : Type 0 where
  pub each : All (IsIneligibleAt ids rows) facts
  pub all : (n : ℕ) (x : Id) (set : TestSet) → n < end → slice_get ids n ≡ Some x → slice_get rows n ≡ Some set
      → tests_of set ≢ [] → Contains (map (λ f. f.id) facts) x

-- the ids of those that serve the need at a place
abbrev pub AreServers : Judged → ℕ → List Id → Type 0
AreServers j place servers = (need : Need) → slice_get j.system.needs place ≡ Some need
    → servers ≡ map (λ m. slice_index_or j.ids.keys m []) need.any

-- the id of a dropped candidate, the need for which it is dropped, and the ids that could serve it
pub record IsFactOf (j : Judged) (d : Drop) (f : Dropped) : Type 0 where
  pub id : slice_get j.ids.keys d.candidate ≡ Some f.id
  pub need : slice_get (map need_of j.needs.items) d.need ≡ Some (f.kind, f.needed)
  pub servers : AreServers j d.need f.servers

abbrev pub AreKeptIds : List Id → List Bool → List Id → Type 0
AreKeptIds ids flags kept = (x : Id) → Contains kept x
    ↔ ((n : ℕ) × (slice_get ids n ≡ Some x) × IsTrue (holds flags n))

-- the candidate of the need at a place is kept, and so is one that serves it
pub record IsServedAt (j : Judged) (flags : List Bool) (place : ℕ) (f : ServedFact) : Type 0 where
  pub need : Need
  pub at : slice_get j.system.needs place ≡ Some need
  pub stated : slice_get (map need_of j.needs.items) place ≡ Some (f.kind, f.needed)
  pub kept : IsTrue (holds flags need.of)
  pub id : slice_get j.ids.keys need.of ≡ Some f.id
  pub server : ℕ
  pub serves : Contains need.any server
  pub server_kept : IsTrue (holds flags server)
  pub by : slice_get j.ids.keys server ≡ Some f.by

-- the candidate of the need at a place is not kept, or none that is kept serves it
abbrev pub HasNoServer : Judged → List Bool → ℕ → Type 0
HasNoServer j flags place = (need : Need) → slice_get j.system.needs place ≡ Some need
    → IsTrue (holds flags need.of) → All (λ y. holds flags y ≡ false) need.any

-- the needs of kept candidates before a place, each with a kept candidate that serves it
pub record AreServedFacts (j : Judged) (flags : List Bool) (end : ℕ) (facts : List ServedFact) : Type 0 where
  pub each : All (λ f. (place : ℕ) × IsServedAt j flags place f) facts
  pub all : (place : ℕ) (need : Need) → place < end → slice_get j.system.needs place ≡ Some need
      → IsTrue (holds flags need.of) → Any (λ y. IsTrue (holds flags y)) need.any
      → (f : ServedFact) × Contains facts f × IsServedAt j flags place f

-- the facts of judged candidates
pub record IsByNumber (j : Judged) (c : Certificate) : Type 0 where
  pub flags : List Bool
  pub drops : List Drop
  pub eliminates : IsElimination j.system flags drops
  pub ineligible : AreIneligible j.ids.keys j.tests.items (length j.ids.keys) c.ineligible
  pub dropped : Beside (λ n d f. IsFactOf j d f) drops c.dropped
  pub kept : AreKeptIds j.ids.keys flags c.kept
  pub rising : IsRising c.kept
  pub served : AreServedFacts j flags (length j.system.needs) c.served
