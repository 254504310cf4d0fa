use Rattle.std.proofs.Common.{take}
use Rattle.intake_asked.specs.Known.{AreStated}
use Rattle.intake_asked.proofs.known.known_of_statements.Given as goal

abbrev pub invariant-loop-stated : goal.invariant-loop-stated
invariant-loop-stated l = AreStated (take l.stated-index l.file.sysmods.items) l.sysmods.items
