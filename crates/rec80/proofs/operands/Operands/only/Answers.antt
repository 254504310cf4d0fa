use Rattle.std.proofs.Common.{◌∙◌, sym, subst}
use Rattle.std.proofs.lemmas.Bool.{true≢false}
use Rattle.terms.specs.Words.{HasWords}
use Rattle.rec80.proofs.WordsAmong.{among_words}
use Rattle.rec80.proofs.operands.Operands.only.Goals as goal

pub returns-then-not-self-clause-none : goal.returns-then-not-self-clause-none
returns-then-not-self-clause-none c = λ pieces r ws h.
    true≢false (sym (r.only_words_is.1 (subst (HasWords pieces) (among_words pieces ws h) h)) ∙ c.if-not-self.true)
