-- Candidates that a command has judged, by their ids and by their numbers.
use Rattle.std.specs.Prelude.{◌≡◌, ◌≢◌, ◌↔◌, Bool, List, All, AllPairs, Contains, IsTrue, length, map}
use Rattle.terms.specs.declared.codes.NeedKind.{NeedKind}
use Rattle.terms.specs.declared.codes.Test.{Test}
use Rattle.terms.specs.Types.{Id}
use Rattle.terms.specs.Lookups.{IsRising, is_nil}
use Rattle.judge_system.specs.declared.judged.Judged.{Judged}
use Rattle.judge_system.specs.declared.stated.Assessment.{Assessment}
use Rattle.judge_system.specs.declared.stated.RequisiteOf.{RequisiteOf}
use Rattle.judge_system.specs.Numbered.{HasSystem, need_of}
use Rattle.judge_system.specs.NumberedForm.{IsNumberedForm}
use Rattle.judge_system.specs.Said.{AreTests, IsSaid}
use Rattle.judge_system.specs.TestSets.{tests_of}

module _ (Fails : Id → Test → Type 0) (Eligible : Id → Type 0) (Requires : Id → NeedKind → Id → Type 0)
    (ServedBy : NeedKind → Id → Id → Type 0) (cands : List Id) where
  -- Each candidate has the tests that it fails. Needs belong to candidates, each once, and candidates supersede.
  pub record AreJudged (tests : List (List Test)) (needs : List RequisiteOf) (superseded : List (Id × Id)) :
      Type 0 where
    pub fails : Id → Test → Bool
    pub tests_are : AreTests fails cands tests
    pub of : All (λ w. Contains cands w.of) needs
    pub once : AllPairs (λ v w. v ≢ w) needs
    pub by : All (λ p. Contains cands p.0) superseded
    pub said : IsSaid Fails Eligible Requires ServedBy (record {
      cands = cands;
      fails = fails;
      needs = needs;
      superseded = superseded;
    })

  -- The numbers are those of the candidates, in their order. Each number has the tests that its candidate fails. The
  -- system is the numbered form of which candidates are eligible, what each one needs, and which ones serve a need.
  pub record IsJudged (j : Judged) : Type 0 where
    pub ids_are : j.ids.keys ≡ cands
    pub rising : IsRising cands
    pub fails : Id → Test → Bool
    pub tests_are : AreTests fails cands (map tests_of j.tests.items)
    pub failed : (x : Id) (test : Test) → Contains cands x → IsTrue (fails x test) ↔ Fails x test
    pub within : (x : Id) → Eligible x → Contains cands x
    pub numbered : IsNumberedForm Eligible Requires ServedBy cands j.system (map need_of j.needs.items)

-- the candidates with their assessment, and the system that follows from it
pub record IsNumberedAs (cands : List Id) (said : Assessment) (j : Judged) : Type 0 where
  pub ids_are : j.ids.keys ≡ cands
  pub tests_are : j.tests ≡ said.tests
  pub needs_are : j.needs ≡ said.needs
  pub bypassed_are : j.bypassed ≡ said.bypassed
  pub system : HasSystem cands said.superseded.items (map (λ tests. is_nil (tests_of tests)) said.tests.items)
      said.needs.items j.system

-- there is a row of tests for each number, and a need by ids for each need of the system
pub record HasParts (j : Judged) : Type 0 where
  pub size : j.system.size ≡ length j.ids.keys
  pub tests : length j.tests.items ≡ length j.ids.keys
  pub needs : length j.needs.items ≡ length j.system.needs
