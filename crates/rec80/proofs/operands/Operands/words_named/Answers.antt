use Rattle.std.proofs.Common.{◌∙◌, sym, subst, map}
use Rattle.std.proofs.lemmas.Bool.{true≢false}
use Rattle.terms.specs.Operands.{AreOperands}
use Rattle.terms.proofs.ExactWords.{words_only}
use Rattle.rec80.specs.Views.{words_of}
use Rattle.rec80.proofs.operands.Operands.words_named.Goals as goal

pub returns-then-not-are_operands-clause-none : goal.returns-then-not-are_operands-clause-none
returns-then-not-are_operands-clause-none c = λ pieces r ws h a.
    let same = words_only pieces ws (words_of c.in_ok-words.words.now) h (c.in_ok-words.ensures.some pieces r) in
    true≢false (sym (c.are_operands.ensures.1 (subst (AreOperands (map (λ name. name.now) c.args.names.now)) same a))
    ∙ c.if-not-are_operands.true)
