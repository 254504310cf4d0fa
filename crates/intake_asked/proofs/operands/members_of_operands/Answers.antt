use Rattle.std.proofs.Common.{◌∙◌, [], ap, map, arith}
use Rattle.std.specs.Prelude.{if◌then◌else◌}
use Rattle.std.proofs.lemmas.List.{take_all}
use Rattle.intake_read.specs.declared.items.WideOperand.{WideOperand}
use Rattle.intake_read.specs.Stated.{value_text, members}
use Rattle.intake_asked.specs.Words.{is_called, listed}
use Rattle.intake_asked.proofs.Passing.{flat_map_next, more_found}
use Rattle.intake_asked.proofs.operands.members_of_operands.Goals as goal

pub loop-operand-preserved : goal.loop-operand-preserved
loop-operand-preserved c =
    let l = c.loop-operand in
    let names = map (λ n. n.now) c.args.names.now in
    more_found (λ p. p.now) c.append.new.self.items l.all.items c.in_ok-more.more.items _ _ _
    c.in_ok-append.ensures.items l.invariant c.in_ok-more.ensures
    (flat_map_next (λ (o : WideOperand). if is_called names o then members (value_text o.value) else [])
    c.args.operands.now l.operand-index c.operand-item.result (omega arith) c.operand-item.is)

pub returns : goal.returns
returns c =
    c.loop-operand.invariant ∙ ap (listed (map (λ n. n.now) c.args.names.now))
    (take_all c.loop-operand.operand-index c.args.operands.now (omega arith))
