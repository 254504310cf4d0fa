use Rattle.std.proofs.Common.{◌∙◌, ap, Some, None}
use Rattle.terms.specs.Operands.{operand}
use Rattle.rec80.specs.Views.{words_of}
use Rattle.rec80.proofs.Naming.{list_is}
use Rattle.rec80.proofs.operands.Operands.list_after.Goals as goal

pub returns-in_err-operand : goal.returns-in_err-operand
returns-in_err-operand c =
    rw c.from_residual.ensures (λ pieces r.
    list_is c.args.name.now None pieces (words_of c.args.self.now.words.items)
    (c.in_err-operand.ensures ∙ ap (λ ws. operand c.args.name.now (words_of ws)) c.as_slice.ensures.value) r.words_are)

pub returns : goal.returns
returns c = λ pieces r.
    list_is c.args.name.now (Some c.in_ok-operand.field-0) pieces (words_of c.args.self.now.words.items)
    (c.in_ok-operand.ensures ∙ ap (λ ws. operand c.args.name.now (words_of ws)) c.as_slice.ensures.value) r.words_are
