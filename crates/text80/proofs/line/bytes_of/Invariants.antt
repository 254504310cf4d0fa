use Rattle.std.proofs.Common.{take}
use Rattle.terms.specs.Texts.{HasLines}
use Rattle.text80.proofs.line.bytes_of.Given as goal

abbrev pub invariant-loop-line : goal.invariant-loop-line
invariant-loop-line l = HasLines l.bytes.items (take l.line-index l.lines)
