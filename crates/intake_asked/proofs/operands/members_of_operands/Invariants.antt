use Rattle.std.proofs.Common.{◌≡◌, take, map}
use Rattle.intake_asked.specs.Words.{listed}
use Rattle.intake_asked.proofs.operands.members_of_operands.Given as goal

abbrev pub invariant-loop-operand : goal.invariant-loop-operand
invariant-loop-operand l = map (λ p. p.now) l.all.items
    ≡ listed (map (λ n. n.now) l.names) (take l.operand-index l.operands)
