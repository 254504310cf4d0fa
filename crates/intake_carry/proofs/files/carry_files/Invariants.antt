use Rattle.std.proofs.Common.{take}
use Rattle.intake_holds.specs.Become.{Become}
use Rattle.intake_carry.specs.Carried.{FileBecomes}
use Rattle.intake_carry.proofs.files.carry_files.Given as goal

abbrev pub invariant-loop-file : goal.invariant-loop-file
invariant-loop-file l = Become (FileBecomes l.scope.options.now.decide l.scope.users.now)
    (take l.file-index l.files) l.gathered.items.items l.gathered.outside.items
