-- Sets of tests, by a flag for each.
use Rattle.std.specs.Prelude.{Bool, false, List, filter}
use Rattle.terms.specs.declared.codes.Test.{Test}
use Rattle.terms.specs.declared.codes.Test.TheVariants as test
use Rattle.terms.specs.Failures.{all_tests}
use Rattle.judge_system.specs.declared.test_set.TestSet.{TestSet}

abbrev pub is_in_set : TestSet → Test → Bool
is_in_set s test.HeldBySystem = s.held_by_system
is_in_set s test.HeldByUser = s.held_by_user
is_in_set s test.ForbiddenByNpre = s.forbidden_by_npre
is_in_set s test.OwnedByAnother = s.owned_by_another
is_in_set s test.Regression = s.regression
is_in_set s test.NothingToUpdate = s.nothing_to_update
is_in_set s test.NotInTarget = s.not_in_target
is_in_set s test.ChainDeleted = s.chain_deleted
is_in_set s test.InClash = s.in_clash
is_in_set s test.AlreadyAccepted = s.already_accepted
is_in_set s test.HasDelete = s.has_delete
is_in_set s test.OtherLevel = s.other_level
is_in_set s test.SeveralFit = s.several_fit

-- the tests of a set, in the order of the codes
abbrev pub tests_of : TestSet → List Test
tests_of s = filter (is_in_set s) all_tests

abbrev pub no_tests : TestSet
no_tests = record {
  held_by_system = false;
  held_by_user = false;
  forbidden_by_npre = false;
  owned_by_another = false;
  regression = false;
  nothing_to_update = false;
  not_in_target = false;
  chain_deleted = false;
  in_clash = false;
  already_accepted = false;
  has_delete = false;
  other_level = false;
  several_fit = false;
}
