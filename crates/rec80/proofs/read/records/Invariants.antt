use Rattle.std.proofs.Common.{take}
use Rattle.std.specs.List.{All}
use Rattle.terms.specs.Records.{IsPrintable}
use Rattle.rec80.proofs.read.records.Given as goal

abbrev pub invariant-loop-i : goal.invariant-loop-i
invariant-loop-i l = All IsPrintable (take l.i l.byte-items)
