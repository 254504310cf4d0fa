use Rattle.std.proofs.Common.{take}
use Rattle.judge_system.specs.Numbered.{HasNeeds}
use Rattle.judge_system.proofs.numbered.numbered_system.Given as goal

abbrev pub invariant-loop-i : goal.invariant-loop-i
invariant-loop-i l = HasNeeds l.ids.keys l.served.keys l.fn.eligible.items (take l.i l.stated) l.system
