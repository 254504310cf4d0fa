use Rattle.std.proofs.Common.{◌∙◌, ap}
use Rattle.terms.specs.Operands.{operand}
use Rattle.rec80.specs.Views.{words_of}
use Rattle.rec80.proofs.Naming.{there_is}
use Rattle.rec80.proofs.operands.Operands.has_word.Goals as goal

pub returns : goal.returns
returns c = λ pieces r.
    c.is_some.ensures ∙ there_is c.args.name.now c.operand.result pieces (words_of c.args.self.now.words.items)
    (c.operand.ensures ∙ ap (λ ws. operand c.args.name.now (words_of ws)) c.as_slice.ensures.value) r.words_are
