-- The tests of RESTORE, as the code tries them.
use Rattle.std.specs.Prelude.{Bool, false, not}
use Rattle.std.specs.List.{list_any}
use Rattle.std.specs.Option.{option_map_or}
use Rattle.terms.specs.declared.codes.Test.{Test}
use Rattle.terms.specs.Types.{Id, Change}
use Rattle.terms.specs.Lookups.{is_nil, changes_of, element_of, is_supplied}
use Rattle.terms.specs.Choice.{del_of}
use Rattle.terms.specs.Restore.{Restoring, may_return}
use Rattle.judge_system.specs.declared.test_set.TestSet.{TestSet}
use Rattle.judge_system.specs.TestSets.{is_in_set, no_tests}

-- whether the distribution zone has the element, and the target zone cannot take it in
abbrev pub is_behind : Restoring → Change → Bool
is_behind r h = option_map_or (λ e. not (may_return r e)) (element_of r.accepted h.elem_type h.name) false

-- the tests that it fails
abbrev pub failed_tests : Restoring → Id → TestSet
failed_tests r x = record no_tests {
  already_accepted = is_supplied r.accepted x;
  has_delete = not (is_nil (del_of r.choice x));
  other_level = list_any (is_behind r) (changes_of r.global x);
}

abbrev pub fails_test : Restoring → Id → Test → Bool
fails_test r x = is_in_set (failed_tests r x)
