use Rattle.std.proofs.Common.{arith}
use Rattle.terms.proofs.BesideLists.{all_next, all_through}
use Rattle.intake_elements.specs.Elements.{IsHarmless}
use Rattle.intake_elements.proofs.elements.drop_operands.Goals as goal

pub loop-operand-preserved : goal.loop-operand-preserved
loop-operand-preserved c = λ t.
    let b = c.are_both-all.ensures t in
    all_next (IsHarmless c.args.options.now.decide) c.args.operands.now c.loop-operand.operand-index
    c.operand-item.result (omega arith) c.operand-item.is (c.in_ok-dropped.ensures b.1) (c.loop-operand.invariant b.0)

pub returns : goal.returns
returns c = λ t.
    all_through (IsHarmless c.args.options.now.decide) c.args.operands.now c.loop-operand.operand-index (omega arith)
    (c.loop-operand.invariant t)
