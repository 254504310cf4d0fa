-- The survivors are the candidates that fail at most the test which looks at survivors alone.
use Rattle.std.proofs.Common.{◌≡◌, ◌⊎◌, inl, inr, ℕ, ◌+◌, Bool, true, false, List, [], ◌∷◌, ◌++◌, filter, cond}
use Rattle.std.proofs.Common.{Some, refl, sym, ap, ◌∙◌, subst, Contains, arith, slice_get, append-nil, true≢false}
use Rattle.std.proofs.Common.{length}
use Rattle.std.specs.Prelude.{◌↔◌}
use Rattle.std.specs.List.{list_all}
use Rattle.std.proofs.lemmas.Bool.{cases_eq}
use Rattle.std.proofs.lemmas.Option.{same_Some, slice_get_within}
use Rattle.std.proofs.lemmas.List.Elements.{Contains-append_left, Contains-append_right, Contains-append_cases}
use Rattle.terms.proofs.ListMembers.{here, here_or, none_in, in_filter, filter_in}
use Rattle.terms.proofs.Places.{contains_at, found_at}
use Rattle.terms.proofs.Searches.{all_pass, passes_all}
use Rattle.terms.specs.declared.codes.Test.{Test}
use Rattle.terms.specs.declared.codes.Test.TheVariants.{HeldBySystem, HeldByUser, ForbiddenByNpre, OwnedByAnother}
use Rattle.terms.specs.declared.codes.Test.TheVariants.{Regression, NothingToUpdate, NotInTarget, ChainDeleted}
use Rattle.terms.specs.declared.codes.Test.TheVariants.{InClash, AlreadyAccepted, HasDelete, OtherLevel, SeveralFit}
use Rattle.terms.specs.Types.{Id}
use Rattle.terms.specs.Lookups.{IsRising}
use Rattle.terms.specs.Tests.{Setting, AreSurvivors, Survives, FailsAlone, Fails}
use Rattle.terms.specs.Failures.{all_tests}
use Rattle.judge_system.proofs.Passing.{all_there}
use Rattle.judge_faults.specs.Failed.{AreFailedTests}
use Rattle.judge.specs.Surviving.{is_clash, SurvivesIn}

module _ (ids : List Id) (rows : List (List Test)) where
  abbrev Are : ℕ → List Id → Type 0
  Are end found = (x : Id) → Contains found x ↔ SurvivesIn ids rows end x

  later : (k : ℕ) (x : Id) → SurvivesIn ids rows k x → SurvivesIn ids rows (k + 1) x
  later k x h = record {
    place = h.place;
    below = omega (arith, h.below);
    at = h.at;
    row = h.row;
    row_at = h.row_at;
    only_clashes = h.only_clashes;
  }

  -- it stands in front, or at the place itself
  earlier : (k : ℕ) (y x : Id) (row : List Test) → slice_get ids k ≡ Some y → slice_get rows k ≡ Some row
      → SurvivesIn ids rows (k + 1) x → SurvivesIn ids rows k x ⊎ ((y ≡ x) × (list_all is_clash row ≡ true))
  earlier k y x row at row_at h = elim (cases_eq h.place k) [
    | inl this ↦
        let same : y ≡ x = same_Some y x (sym at ∙ subst (λ m. slice_get ids m ≡ Some x) this h.at) in
        let row_same : h.row ≡ row = same_Some h.row row (sym h.row_at
        ∙ subst (λ m. slice_get rows m ≡ Some row) (sym this) row_at) in
        inr (same, subst (λ r. list_all is_clash r ≡ true) row_same h.only_clashes)
    | inr other ↦ inl (record {
      place = h.place;
      below = omega (arith, h.below, other);
      at = h.at;
      row = h.row;
      row_at = h.row_at;
      only_clashes = h.only_clashes;
    })
  ]

  -- the next candidate
  pub survivors_next : (k : ℕ) (y : Id) (row : List Test) (old new : List Id) → slice_get ids k ≡ Some y
      → slice_get rows k ≡ Some row → new ≡ old ++ cond (list_all is_clash row) (y ∷ []) []
      → ((x : Id) → Contains old x ↔ SurvivesIn ids rows k x)
      → (x : Id) → Contains new x ↔ SurvivesIn ids rows (k + 1) x
  survivors_next k y row old new at row_at is was x = by (list_all is_clash row) refl
    where
      by : (b : Bool) → list_all is_clash row ≡ b → Contains new x ↔ SurvivesIn ids rows (k + 1) x
      by true on =
          let grew : new ≡ old ++ y ∷ [] = is ∙ ap (λ b. old ++ cond b (y ∷ []) []) on in (
            λ h. elim (Contains-append_cases old (y ∷ []) x (subst (λ l. Contains l x) grew h)) [
              | inl front ↦ later k x ((was x).0 front)
              | inr last ↦ elim (here_or y [] x last) [
                | inl same ↦ record {
                  place = k;
                  below = omega arith;
                  at = subst (λ w. slice_get ids k ≡ Some w) same at;
                  row = row;
                  row_at = row_at;
                  only_clashes = on;
                }
                | inr none ↦ absurd (none_in x none)
              ]
            ],
            λ h. subst (λ l. Contains l x) (sym grew) (elim (earlier k y x row at row_at h) [
              | inl front ↦ Contains-append_left old (y ∷ []) x ((was x).1 front)
              | inr this ↦ Contains-append_right old (y ∷ []) x (subst (Contains (y ∷ [])) this.0 (here y []))
            ]),
          )
      by false off =
          let same : new ≡ old = is ∙ ap (λ b. old ++ cond b (y ∷ []) []) off ∙ append-nil old in (
            λ h. later k x ((was x).0 (subst (λ l. Contains l x) same h)),
            λ h. subst (λ l. Contains l x) (sym same) (elim (earlier k y x row at row_at h) [
              | inl front ↦ (was x).1 front
              | inr this ↦ absurd (true≢false (sym this.1 ∙ off))
            ]),
          )

  pub survivors_none : (x : Id) → Contains [] x ↔ SurvivesIn ids rows 0 x
  survivors_none x = (λ h. absurd (none_in x h), λ h. absurd (omega (arith, h.below)))

module _ (s : Setting) (rows : List (List Test)) (failed : AreFailedTests s rows) where
  -- what fails only that test survives
  surviving : (x : Id) → SurvivesIn s.cands rows (length s.cands) x → Survives s x
  surviving x h = ((contains_at s.cands h.place x h.at, alone), λ deleted. off ChainDeleted refl deleted)
    where
      row : h.row ≡ filter (failed.fails x) all_tests
      row = same_Some h.row (filter (failed.fails x) all_tests) (sym h.row_at ∙ failed.rows_are h.place x h.at)

      off : (t : Test) → is_clash t ≡ false → ¬ Fails s x t
      off t other fails = true≢false (sym (passes_all is_clash (filter (failed.fails x) all_tests) t
          (subst (λ r. list_all is_clash r ≡ true) row h.only_clashes)
          (in_filter (failed.fails x) all_tests t (all_there t) ((failed.failed h.place x h.at t).1 fails))) ∙ other)

      alone : (t : Test) → ¬ FailsAlone s x t
      alone HeldBySystem = off HeldBySystem refl
      alone HeldByUser = off HeldByUser refl
      alone ForbiddenByNpre = off ForbiddenByNpre refl
      alone OwnedByAnother = off OwnedByAnother refl
      alone Regression = off Regression refl
      alone NothingToUpdate = off NothingToUpdate refl
      alone NotInTarget = off NotInTarget refl
      alone ChainDeleted = λ e. e
      alone InClash = λ e. e
      alone AlreadyAccepted = λ e. e
      alone HasDelete = λ e. e
      alone OtherLevel = λ e. e
      alone SeveralFit = off SeveralFit refl

  -- a survivor fails only that test
  survives : (x : Id) → Survives s x → SurvivesIn s.cands rows (length s.cands) x
  survives x h =
      let at = found_at s.cands x h.0.0 in record {
        place = at.0;
        below = slice_get_within s.cands at.0 x at.1;
        at = at.1;
        row = filter (failed.fails x) all_tests;
        row_at = failed.rows_are at.0 x at.1;
        only_clashes = all_pass is_clash (filter (failed.fails x) all_tests) (λ t there.
            only t ((failed.failed at.0 x at.1 t).0 (filter_in (failed.fails x) all_tests t there).1));
      }
    where
      only : (t : Test) → Fails s x t → is_clash t ≡ true
      only HeldBySystem f = absurd (h.0.1 HeldBySystem f)
      only HeldByUser f = absurd (h.0.1 HeldByUser f)
      only ForbiddenByNpre f = absurd (h.0.1 ForbiddenByNpre f)
      only OwnedByAnother f = absurd (h.0.1 OwnedByAnother f)
      only Regression f = absurd (h.0.1 Regression f)
      only NothingToUpdate f = absurd (h.0.1 NothingToUpdate f)
      only NotInTarget f = absurd (h.0.1 NotInTarget f)
      only ChainDeleted f = absurd (h.1 f)
      only InClash f = refl
      only AlreadyAccepted f = absurd f
      only HasDelete f = absurd f
      only OtherLevel f = absurd f
      only SeveralFit f = absurd (h.0.1 SeveralFit f)

  pub survivors_are : (xs : List Id) → IsRising xs
      → ((x : Id) → Contains xs x ↔ SurvivesIn s.cands rows (length s.cands) x) → AreSurvivors s xs
  survivors_are xs rising members = record {
    rising = rising;
    members = λ x. (λ h. surviving x ((members x).0 h), λ h. (members x).1 (survives x h));
  }
