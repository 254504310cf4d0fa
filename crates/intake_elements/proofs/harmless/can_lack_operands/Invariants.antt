use Rattle.std.proofs.Common.{take, IsTrue}
use Rattle.std.specs.Prelude.{All}
use Rattle.intake_elements.specs.Elements.{IsHarmless}
use Rattle.intake_elements.proofs.harmless.can_lack_operands.Given as goal

abbrev pub invariant-loop-operand : goal.invariant-loop-operand
invariant-loop-operand l = IsTrue l.can_lack_all → All (IsHarmless l.options.decide) (take l.operand-index l.operands)
