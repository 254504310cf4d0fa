use Rattle.std.proofs.Common.{List, ◌++◌, take}
use Rattle.terms.specs.Types.{Hold}
use Rattle.intake_carry.specs.Keys.{AreKeysOf}
use Rattle.intake_carry.proofs.held_copies.add_keys.Given as goal

abbrev pub invariant-loop-hold : goal.invariant-loop-hold
invariant-loop-hold l = (before : List Hold) → AreKeysOf l.fn.keys before
    → AreKeysOf l.keys (before ++ take l.hold-index l.holds)
