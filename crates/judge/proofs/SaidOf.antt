-- What is said of the candidates is so by the command's tests and needs.
use Rattle.std.proofs.Common.{◌≡◌, ◌<◌, inl, inr, ℕ, List, Option, refl, sym, ap, ◌∙◌, subst, Contains, length}
use Rattle.std.proofs.Common.{filter, get_or, map}
use Rattle.std.specs.Prelude.{◌↔◌}
use Rattle.std.specs.Option.{option_map}
use Rattle.std.proofs.lemmas.List.{length-map, same_lists}
use Rattle.std.proofs.lemmas.List.Elements.{Contains-get_or}
use Rattle.std.proofs.lemmas.Option.{slice_get-map, get_or_from_slice_get}
use Rattle.terms.proofs.Places.{at_place, found_at}
use Rattle.terms.specs.declared.codes.Test.{Test}
use Rattle.terms.specs.declared.codes.Test.TheVariants.{HeldBySystem, HeldByUser, ForbiddenByNpre, OwnedByAnother}
use Rattle.terms.specs.declared.codes.Test.TheVariants.{Regression, NothingToUpdate, NotInTarget, ChainDeleted}
use Rattle.terms.specs.declared.codes.Test.TheVariants.{InClash, AlreadyAccepted, HasDelete, OtherLevel, SeveralFit}
use Rattle.terms.specs.Types.{Id, Zone}
use Rattle.terms.specs.Lookups.{IsRising}
use Rattle.terms.specs.Tests.{Setting, Fails, FailsAlone, IsEligible}
use Rattle.terms.specs.Needs.{Needs, Serves}
use Rattle.terms.specs.Failures.{all_tests}
use Rattle.zones.specs.declared.scope.Scope.{Scope}
use Rattle.zones.specs.Scopes.{setting_with, setting_of}
use Rattle.judge_system.specs.declared.stated.RequisiteOf.{RequisiteOf}
use Rattle.judge_system.specs.declared.judged.Judged.{Judged}
use Rattle.judge_system.specs.declared.stated.Assessment.{Assessment}
use Rattle.judge_system.specs.Judged.{AreJudged, IsNumberedAs}
use Rattle.judge_system.proofs.Judging.{judged_of}
use Rattle.judge_system.specs.Said.{AreTests, a_need}
use Rattle.judge_faults.specs.Failed.{AreFailedTests}
use Rattle.judge_needs.specs.Needed.{AreNeeds}
use Rattle.judge_needs.specs.Pairs.{AreBypassed, AreSuperseded}
use Rattle.judge.specs.Installs.{IsInstallAssessed, IsInstallJudged}
use Rattle.judge.proofs.Needed.{needs_open}

-- rows of tests beside the candidates
tests_are : (s : Setting) (rows : List (List Test)) (failed : AreFailedTests s rows)
    → AreTests failed.fails s.cands rows
tests_are s rows failed = same_lists rows (map row s.cands) (failed.lengths ∙ sym (length-map s.cands row)) same
  where
    row : Id → List Test
    row x = filter (failed.fails x) all_tests

    same : (k : ℕ) (d : List Test) → k < length rows → get_or rows k d ≡ get_or (map row s.cands) k d
    same k d below =
        let x = at_place s.cands k (subst (λ n. k < n) failed.lengths below) in
        get_or_from_slice_get rows k (row x.0) d (failed.rows_are k x.0 x.1)
        ∙ sym (get_or_from_slice_get (map row s.cands) k (row x.0) d
        (slice_get-map row s.cands k ∙ ap (option_map row) x.1))

-- a candidate that fails no test is eligible
eligible_is : (s : Setting) (x : Id) → IsEligible s x ↔ (Contains s.cands x × ((t : Test) → ¬ Fails s x t))
eligible_is s x = (
  λ e. (e.0.0.0, passes e),
  λ both. (((both.0, alone both.1), both.1 ChainDeleted), both.1 InClash),
)
  where
    passes : IsEligible s x → (t : Test) → ¬ Fails s x t
    passes e HeldBySystem = e.0.0.1 HeldBySystem
    passes e HeldByUser = e.0.0.1 HeldByUser
    passes e ForbiddenByNpre = e.0.0.1 ForbiddenByNpre
    passes e OwnedByAnother = e.0.0.1 OwnedByAnother
    passes e Regression = e.0.0.1 Regression
    passes e NothingToUpdate = e.0.0.1 NothingToUpdate
    passes e NotInTarget = e.0.0.1 NotInTarget
    passes e ChainDeleted = e.0.1
    passes e InClash = e.1
    passes e AlreadyAccepted = λ f. f
    passes e HasDelete = λ f. f
    passes e OtherLevel = λ f. f
    passes e SeveralFit = e.0.0.1 SeveralFit

    alone : ((t : Test) → ¬ Fails s x t) → (t : Test) → ¬ FailsAlone s x t
    alone none HeldBySystem = none HeldBySystem
    alone none HeldByUser = none HeldByUser
    alone none ForbiddenByNpre = none ForbiddenByNpre
    alone none OwnedByAnother = none OwnedByAnother
    alone none Regression = none Regression
    alone none NothingToUpdate = none NothingToUpdate
    alone none NotInTarget = none NotInTarget
    alone none ChainDeleted = λ f. f
    alone none InClash = λ f. f
    alone none AlreadyAccepted = λ f. f
    alone none HasDelete = λ f. f
    alone none OtherLevel = λ f. f
    alone none SeveralFit = none SeveralFit

module _ (scope : Scope) (related : Option Zone) where
  abbrev s : Setting
  s = setting_with scope related

  pub install_judged : (survivors : List Id) → (rows : List (List Test))
      → AreFailedTests s rows → (needs : List RequisiteOf) → AreNeeds (setting_of scope) survivors needs
      → (superseded : List (Id × Id)) → AreSuperseded s.choice needs s.cands superseded
      → AreJudged (Fails s) (IsEligible s) (Needs s survivors) (Serves s.choice) s.cands rows needs superseded
  install_judged survivors rows failed needs are_needs superseded over = record {
    fails = failed.fails;
    tests_are = tests_are s rows failed;
    of = λ k d below.
        let v = get_or needs k d in
        ((are_needs.members v.of v.kind v.id).0 (Contains-get_or needs k d below)).0;
    once = are_needs.once;
    by = λ k d below.
        let p = get_or superseded k d in
        ((over p.0 p.1).0 (Contains-get_or superseded k d below)).0;
    said = record {
      fails = λ x t own. let at = found_at s.cands x own in failed.failed at.0 x at.1 t;
      eligible = eligible_is s;
      needs = λ x z kind own.
          let open_is = needs_open scope related survivors x kind z own in
          let member = are_needs.members x kind z in (
            λ there. open_is.1 (member.0 there).1,
            λ need. member.1 (own, open_is.0 need),
          );
      serves = λ x y z kind own need there.
          let asked = (are_needs.members x kind z).1 (
            own,
            (needs_open scope related survivors x kind z own).0 need,
          ) in (
            λ by. elim by [ inl same ↦ inl same | inr pair ↦ inr (pair.0, ((over y z).0 pair.1).1.1) ],
            λ by. elim by [
              | inl same ↦ inl same
              | inr pair ↦ inr (pair.0, (over y z).1 (there, ((a_need x kind z, asked, pair.0, refl), pair.1)))
            ],
          );
    };
  }

-- the candidates, numbered
pub install_numbered : (s : Setting) (said : Assessment) → IsInstallAssessed s said → IsRising s.cands → (j : Judged)
    → IsNumberedAs s.cands said j → IsInstallJudged s j
install_numbered s said is rising j numbered = record {
  survivors = is.survivors;
  are_survivors = is.are_survivors;
  judged = judged_of (Fails s) (IsEligible s) (Needs s is.survivors) (Serves s.choice) s.cands said is.are_judged rising
      j numbered;
  bypassed = subst (λ pairs. AreBypassed s s.cands pairs.items) (sym numbered.bypassed_are) is.bypassed;
}
