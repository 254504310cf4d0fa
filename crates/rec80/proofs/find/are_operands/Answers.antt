use Rattle.std.proofs.Common.{◌∙◌, sym}
use Rattle.std.proofs.lemmas.Bool.{false≢true}
use Rattle.rec80.proofs.Naming.{operands_are, operands_known}
use Rattle.rec80.proofs.find.are_operands.Goals as goal

pub returns-then-are_known : goal.returns-then-are_known
returns-then-are_known c = operands_are c.args.names.now c.args.words.now c.any_twice.result
    (c.are_known.ensures.0 c.if-are_known.true) c.any_twice.ensures

pub returns-else-are_known : goal.returns-else-are_known
returns-else-are_known c = (
  λ e. absurd (false≢true (sym c.if-are_known.false ∙ e)),
  λ a. c.are_known.ensures.1 (operands_known c.args.names.now c.args.words.now a),
)
