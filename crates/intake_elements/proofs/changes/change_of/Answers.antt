use Rattle.std.proofs.Common.{subst, rules}
use Rattle.intake_elements.specs.Elements.{IsLacked}
use Rattle.intake_elements.proofs.changes.change_of.Goals as goal

pub change_by_stand_in-requires : goal.change_by_stand_in-requires
change_by_stand_in-requires c = record {
  lacked = subst IsLacked c.as_slice.ensures.value c.in-None.ensures.none;
  lacks_nothing = c.in_ok-meets_stand_in_rules.ensures c.if-not-branch.false;
}
