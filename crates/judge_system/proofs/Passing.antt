-- Who fails no test.
use Rattle.std.proofs.Common.{◌≡◌, ◌∙◌, ℕ, Bool, true, false, List, [], ◌∷◌, Some, refl, sym, ap, subst, map}
use Rattle.std.proofs.Common.{filter, slice_get, Contains, IsTrue, arith, true≢false}
use Rattle.std.specs.Prelude.{◌↔◌, IsFalse}
use Rattle.std.specs.Option.{option_map}
use Rattle.std.proofs.lemmas.Bool.{false_from_ne_true}
use Rattle.std.proofs.lemmas.Option.{slice_get-map, get_or_from_slice_get}
use Rattle.terms.proofs.ListMembers.{filter_in, in_filter, none_in}
use Rattle.terms.proofs.Places.{contains_at}
use Rattle.terms.specs.declared.codes.Test.{Test}
use Rattle.terms.specs.declared.codes.Test.TheVariants.{HeldBySystem, HeldByUser, ForbiddenByNpre, OwnedByAnother}
use Rattle.terms.specs.declared.codes.Test.TheVariants.{Regression, NothingToUpdate, NotInTarget, ChainDeleted}
use Rattle.terms.specs.declared.codes.Test.TheVariants.{InClash, AlreadyAccepted, HasDelete, OtherLevel, SeveralFit}
use Rattle.terms.specs.Types.{Id}
use Rattle.terms.specs.Lookups.{is_nil}
use Rattle.terms.specs.Failures.{all_tests}
use Rattle.solve.specs.System.{holds}
use Rattle.judge_system.specs.Said.{Said, IsEligible, AreTests}

pub all_there : (t : Test) → Contains all_tests t
all_there HeldBySystem = (0, omega arith, refl)
all_there HeldByUser = (1, omega arith, refl)
all_there ForbiddenByNpre = (2, omega arith, refl)
all_there OwnedByAnother = (3, omega arith, refl)
all_there Regression = (4, omega arith, refl)
all_there NothingToUpdate = (5, omega arith, refl)
all_there NotInTarget = (6, omega arith, refl)
all_there ChainDeleted = (7, omega arith, refl)
all_there InClash = (8, omega arith, refl)
all_there AlreadyAccepted = (9, omega arith, refl)
all_there HasDelete = (10, omega arith, refl)
all_there OtherLevel = (11, omega arith, refl)
all_there SeveralFit = (12, omega arith, refl)

pub none_fails : (p : Test → Bool) → is_nil (filter p all_tests) ≡ true ↔ ((t : Test) → IsFalse (p t))
none_fails p = (from (filter p all_tests) refl, to (filter p all_tests) refl)
  where
    from : (row : List Test) → filter p all_tests ≡ row → is_nil row ≡ true → (t : Test) → IsFalse (p t)
    from [] is on t = false_from_ne_true (p t) (λ fails. none_in t (subst (λ l. Contains l t) is
        (in_filter p all_tests t (all_there t) fails)))
    from (u ∷ row) is on t = absurd (cc on)

    to : (row : List Test) → filter p all_tests ≡ row → ((t : Test) → IsFalse (p t)) → is_nil row ≡ true
    to [] is none = refl
    to (t ∷ row) is none =
        let f = filter_in p all_tests t (subst (λ l. Contains l t) (sym is) (0, omega arith, refl)) in
        absurd (true≢false (sym f.1 ∙ none t))

-- those that fail no test are flagged
pub eligible_is : (s : Said) (rows : List (List Test)) → AreTests s.fails s.cands rows → (flags : List Bool)
    → flags ≡ map is_nil rows → (n : ℕ) (x : Id) → slice_get s.cands n ≡ Some x
    → IsTrue (holds flags n) ↔ IsEligible s x
eligible_is s rows made flags flagged n x at =
    let row : slice_get rows n ≡ Some (filter (s.fails x) all_tests) =
    ap (λ l. slice_get l n) made ∙ slice_get-map (λ y. filter (s.fails y) all_tests) s.cands n
    ∙ ap (option_map (λ y. filter (s.fails y) all_tests)) at in
    let flag : slice_get flags n ≡ Some (is_nil (filter (s.fails x) all_tests)) =
    ap (λ l. slice_get l n) flagged ∙ slice_get-map is_nil rows n ∙ ap (option_map is_nil) row in
    let is : holds flags n ≡ is_nil (filter (s.fails x) all_tests) =
    get_or_from_slice_get flags n _ false flag in (
      λ on. (contains_at s.cands n x at, (none_fails (s.fails x)).0 (sym is ∙ on)),
      λ e. is ∙ (none_fails (s.fails x)).1 e.1,
    )
