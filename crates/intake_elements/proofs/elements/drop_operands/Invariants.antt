use Rattle.std.proofs.Common.{take, IsTrue}
use Rattle.std.specs.Prelude.{All}
use Rattle.intake_elements.specs.Elements.{IsHarmless}
use Rattle.intake_elements.proofs.elements.drop_operands.Given as goal

abbrev pub invariant-loop-operand : goal.invariant-loop-operand
invariant-loop-operand l = IsTrue l.all → All (IsHarmless l.options.decide) (take l.operand-index l.operands)
