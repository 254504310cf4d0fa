use Rattle.std.proofs.Common.{List, drop}
use Rattle.text80.specs.declared.control.Range.{Range}
use Rattle.text80.specs.Merging.{IsSwept}
use Rattle.text80.proofs.merging.sweep.Given as goal

abbrev pub invariant-loop-i : goal.invariant-loop-i
invariant-loop-i l = (all : List Range) → IsSwept all l.number l.ranges l.fn.reach
    → IsSwept all l.number (drop l.i l.ranges) l.end
