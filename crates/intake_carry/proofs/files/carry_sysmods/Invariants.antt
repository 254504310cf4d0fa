use Rattle.std.proofs.Common.{take}
use Rattle.intake_holds.specs.Become.{Become}
use Rattle.intake_carry.specs.Carried.{SysmodBecomes}
use Rattle.intake_carry.proofs.files.carry_sysmods.Given as goal

abbrev pub invariant-loop-stated : goal.invariant-loop-stated
invariant-loop-stated l = Become (SysmodBecomes l.scope.options.now.decide l.scope.users.now)
    (take l.stated-index l.sysmods) l.gathered.items.items l.gathered.outside.items
