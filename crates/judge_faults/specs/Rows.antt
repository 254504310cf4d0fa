-- The failed tests of a candidate, as a list.
use Rattle.std.specs.Prelude.{ℕ, Bool, false, List, filter}
use Rattle.std.specs.List.{list_any}
use Rattle.std.specs.Prelude.{nat_eq}
use Rattle.terms.specs.declared.codes.Test.{Test}
use Rattle.terms.specs.declared.codes.Test.TheVariants.{HeldBySystem, HeldByUser, ForbiddenByNpre, OwnedByAnother}
use Rattle.terms.specs.declared.codes.Test.TheVariants.{Regression, NothingToUpdate, NotInTarget, ChainDeleted}
use Rattle.terms.specs.declared.codes.Test.TheVariants.{InClash, SeveralFit}
use Rattle.terms.specs.Failures.{all_tests}
use Rattle.judge_faults.specs.declared.own.OwnFaults.{OwnFaults}

-- the tests, given what the candidate fails by itself and whether it clashes with another one
abbrev pub fails_test : OwnFaults → Bool → Test → Bool
fails_test a clashes HeldBySystem = a.held_by_system
fails_test a clashes HeldByUser = a.held_by_user
fails_test a clashes ForbiddenByNpre = a.forbidden_by_npre
fails_test a clashes OwnedByAnother = a.owned_by_another
fails_test a clashes Regression = a.regression
fails_test a clashes NothingToUpdate = a.nothing_to_update
fails_test a clashes NotInTarget = a.not_in_target
fails_test a clashes ChainDeleted = a.chain_deleted
fails_test a clashes InClash = clashes
fails_test a clashes SeveralFit = a.several_fit
fails_test a clashes _ = false

abbrev pub is_among : List ℕ → ℕ → Bool
is_among places n = list_any (nat_eq n) places

-- the row of a candidate
abbrev pub row_of : List ℕ → ℕ → OwnFaults → List Test
row_of clashing n a = filter (fails_test a (is_among clashing n)) all_tests
