use Rattle.std.proofs.Common.{◌≡◌, take}
use Rattle.intake_carry.specs.PassedOn.{PassesOn}
use Rattle.intake_carry.proofs.passed_on.pass_holds_on.Given as goal

abbrev pub invariant-loop-hold : goal.invariant-loop-hold
invariant-loop-hold l = record {
  same : l.sysmod ≡ record l.fn.sysmod { holds = l.sysmod.holds };
  held : PassesOn l.fn.sysmod.id l.fn.sysmod.vers (take l.hold-index l.stated.holds.items) l.sysmod.holds;
}
