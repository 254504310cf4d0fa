use Rattle.std.proofs.Common.{◌≡◌, ◌++◌, List, Some, take}
use Rattle.terms.specs.Types.{Hold}
use Rattle.intake_holds.specs.Become.{Become}
use Rattle.intake_holds.specs.Holds.{HoldBecomes}
use Rattle.intake_carry.proofs.sysmods.place_holds.Given as goal

abbrev pub invariant-loop-hold : goal.invariant-loop-hold
invariant-loop-hold l = record {
  same : l.sysmod ≡ record l.fn.sysmod { holds = l.sysmod.holds };
  held : (inside : List Hold) × (l.sysmod.holds ≡ l.fn.sysmod.holds ++ inside)
      × Become (HoldBecomes (Some l.fn.sysmod.id)) (take l.hold-index l.stated.holds.items) inside l.outside.items;
}
