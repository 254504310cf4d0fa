-- Candidates that are judged: from what is said of them to their numbers, and back to what is decided.
use Rattle.std.proofs.Common.{◌≡◌, ◌∙◌, Bool, List, ap, sym, subst, length, map, filter}
use Rattle.std.proofs.lemmas.List.{length-map}
use Rattle.std.proofs.lemmas.Simd.{map-map}
use Rattle.terms.specs.declared.codes.NeedKind.{NeedKind}
use Rattle.terms.specs.declared.codes.Test.{Test}
use Rattle.terms.specs.Types.{Id}
use Rattle.terms.specs.Lookups.{IsRising, is_nil}
use Rattle.terms.specs.Judging.{Judging}
use Rattle.terms.specs.Failures.{all_tests}
use Rattle.solve.specs.System.{AreKept}
use Rattle.judge_system.specs.declared.failure.Failure.{Failure}
use Rattle.judge_system.specs.declared.judged.Judged.{Judged}
use Rattle.judge_system.specs.declared.stated.Assessment.{Assessment}
use Rattle.judge_system.specs.declared.stated.RequisiteOf.{RequisiteOf}
use Rattle.judge_system.specs.ByNumber.{IsDecidedBy}
use Rattle.judge_system.specs.Decided.{AreDecided}
use Rattle.judge_system.specs.Judged.{AreJudged, IsJudged, IsNumberedAs, HasParts}
use Rattle.judge_system.specs.Numbered.{need_of}
use Rattle.judge_system.specs.NumberedForm.{IsNumberedForm}
use Rattle.judge_system.specs.Said.{Said, AreTests}
use Rattle.judge_system.specs.TestSets.{tests_of}
use Rattle.judge_system.specs.Views.{why_failed}
use Rattle.judge_system.proofs.Alike.{numbered_as}
use Rattle.judge_system.proofs.CandidateIds.{decided}
use Rattle.judge_system.proofs.NumberedNeeds.{said_problem}
use Rattle.judge_system.proofs.Passing.{eligible_is}

module _ (F : Id → Test → Type 0) (E : Id → Type 0) (N : Id → NeedKind → Id → Type 0)
    (S : NeedKind → Id → Id → Type 0) (cands : List Id) where
  -- there is a row of tests for each
  pub rows_of : (tests : List (List Test)) (needs : List RequisiteOf) (superseded : List (Id × Id))
      → AreJudged F E N S cands tests needs superseded → length tests ≡ length cands
  rows_of tests needs superseded are =
      ap length are.tests_are ∙ length-map cands (λ x. filter (are.fails x) all_tests)

  -- their numbers
  pub judged_of : (said : Assessment)
      → AreJudged F E N S cands (map tests_of said.tests.items) said.needs.items said.superseded.items
      → IsRising cands → (j : Judged) → IsNumberedAs cands said j → IsJudged F E N S cands j
  judged_of said are rising j numbered =
      let s : Said = record {
        cands = cands;
        fails = are.fails;
        needs = said.needs.items;
        superseded = said.superseded.items;
      } in
      let rows = map tests_of said.tests.items in
      let flags = map (λ tests. is_nil (tests_of tests)) said.tests.items in
      let flagged = sym (map-map is_nil tests_of said.tests.items) in
      let system = said_problem s flags j.system rising are.once (eligible_is s rows are.tests_are flags flagged)
      (length-map said.tests.items (λ tests. is_nil (tests_of tests))
      ∙ sym (length-map said.tests.items tests_of)
      ∙ rows_of rows said.needs.items said.superseded.items are)
      numbered.system in
      record {
        ids_are = numbered.ids_are;
        rising = rising;
        fails = are.fails;
        tests_are = subst (λ tests. AreTests are.fails cands (map tests_of tests.items))
            (sym numbered.tests_are) are.tests_are;
        failed = are.said.fails;
        within = λ x e. ((are.said.eligible x).0 e).0;
        numbered = subst (λ needs. IsNumberedForm E N S cands j.system (map need_of needs.items))
            (sym numbered.needs_are)
            (numbered_as F E N S s are.said j.system (map need_of said.needs.items) system);
      }

  -- what they are judged by
  abbrev judging : Judging
  judging = record { cands = cands; fails = F; eligible = E; needs = N; serves = S }

  module _ (j : Judged) (is : IsJudged F E N S cands j) where
    pub has_parts : HasParts j
    has_parts = record {
      size = is.numbered.size ∙ ap length (sym is.ids_are);
      tests = sym (length-map j.tests.items tests_of) ∙ ap length is.tests_are
          ∙ length-map cands (λ x. filter (is.fails x) all_tests) ∙ ap length (sym is.ids_are);
      needs = sym (length-map j.needs.items need_of) ∙ is.numbered.lengths;
    }

    -- the kept numbers are the kept ids, and the causers of a number are those of its id
    pub decided_of : (flags : List Bool) → AreKept j.system flags → (kept : List Id) (failed : List (Id × Failure))
        → IsDecidedBy j flags kept failed → AreDecided judging kept (map why_failed failed)
    decided_of flags are_kept kept failed by =
        subst (λ ids. AreDecided (record judging { cands = ids }) kept (map why_failed failed)) is.ids_are
        (decided judging j (subst (λ ids. IsJudged F E N S ids j) (sym is.ids_are) is) flags are_kept kept failed by)
