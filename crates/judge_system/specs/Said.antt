-- The assessment of candidates, by their ids.
use Rattle.std.specs.Prelude.{◌≡◌, ◌↔◌, ◌⊎◌, Bool, List, IsTrue, IsFalse, Contains, map, filter}
use Rattle.terms.specs.declared.codes.NeedKind.{NeedKind}
use Rattle.terms.specs.declared.codes.Test.{Test}
use Rattle.terms.specs.Types.{Id}
use Rattle.terms.specs.Needs.{takes_superseder}
use Rattle.terms.specs.Failures.{all_tests}
use Rattle.judge_system.specs.declared.stated.RequisiteOf.{RequisiteOf}

-- x needs z
abbrev pub a_need : Id → NeedKind → Id → RequisiteOf
a_need x kind z = record { of = x; kind = kind; id = z }

-- The tests that candidates fail, what they need, and pairs of a candidate and an id that it supersedes.
pub record Said : Type 0 where
  pub cands : List Id
  pub fails : Id → Test → Bool
  pub needs : List RequisiteOf
  pub superseded : List (Id × Id)

abbrev pub FailsTest : Said → Id → Test → Type 0
FailsTest s x test = IsTrue (s.fails x test)

-- a candidate that fails no test
abbrev pub IsEligible : Said → Id → Type 0
IsEligible s x = Contains s.cands x × ((test : Test) → IsFalse (s.fails x test))

abbrev pub Needs : Said → Id → NeedKind → Id → Type 0
Needs s x kind z = Contains s.needs (a_need x kind z)

-- y serves a need for z: y is z, or supersedes it if that serves the need
abbrev pub Serves : List (Id × Id) → NeedKind → Id → Id → Type 0
Serves superseded kind y z = (y ≡ z) ⊎ (IsTrue (takes_superseder kind) × Contains superseded (y, z))

-- each id has the tests that it fails, in the order of reports
abbrev pub AreTests : (Id → Test → Bool) → List Id → List (List Test) → Type 0
AreTests fails ids rows = rows ≡ map (λ x. filter (fails x) all_tests) ids

-- The assessment follows a command's own tests, needs, and rule for what serves a need.
module _ (Fails : Id → Test → Type 0) (Eligible : Id → Type 0) (Requires : Id → NeedKind → Id → Type 0)
    (ServedBy : NeedKind → Id → Id → Type 0) where
  pub record IsSaid (s : Said) : Type 0 where
    pub fails : (x : Id) (test : Test) → Contains s.cands x → IsTrue (s.fails x test) ↔ Fails x test
    pub eligible : (x : Id) → Eligible x ↔ (Contains s.cands x × ((test : Test) → ¬ Fails x test))
    pub needs : (x z : Id) (kind : NeedKind) → Contains s.cands x → Contains s.needs (a_need x kind z)
        ↔ Requires x kind z
    pub serves : (x y z : Id) (kind : NeedKind) → Contains s.cands x → Requires x kind z → Contains s.cands y
        → Serves s.superseded kind y z ↔ ServedBy kind y z
