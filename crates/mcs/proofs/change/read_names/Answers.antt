use Rattle.std.proofs.Common.{subst}
use Rattle.std.specs.Prelude.{codes}
use Rattle.terms.specs.Forms.{IsName}
use Rattle.terms.specs.Operands.{operand, HasRequired}
use Rattle.terms.proofs.ExactWords.{words_only}
use Rattle.rec80.specs.Views.{words_of}
use Rattle.mcs.proofs.change.read_names.Goals as goal

pub returns-in_err-words-clause-none : goal.returns-in_err-words-clause-none
returns-in_err-words-clause-none c =
    rw c.from_residual.ensures (λ rest h ws n d s hw hn. c.in_err-words.ensures.none rest h ws hw hn.are_operands)

pub returns-in_err-distlib-clause-none : goal.returns-in_err-distlib-clause-none
returns-in_err-distlib-clause-none c =
    rw c.from_residual-in_err-distlib.ensures (λ rest h ws n d s hw hn.
    let same = words_only rest ws (words_of c.in_ok-words.words.now) hw (c.in_ok-words.ensures.words rest h) in
    c.in_err-distlib.ensures.none d
    (subst (λ l. HasRequired IsName (operand (codes "DISTLIB") l) d) same hn.has_distlib))

pub returns-in_err-syslib-clause-none : goal.returns-in_err-syslib-clause-none
returns-in_err-syslib-clause-none c =
    rw c.from_residual-in_err-syslib.ensures (λ rest h ws n d s hw hn.
    let same = words_only rest ws (words_of c.in_ok-words.words.now) hw (c.in_ok-words.ensures.words rest h) in
    c.in_err-syslib.ensures.none s
    (subst (λ l. HasRequired IsName (operand (codes "SYSLIB") l) s) same hn.has_syslib))

pub returns-clause-some : goal.returns-clause-some
returns-clause-some c = λ rest h. (
  words_of c.in_ok-words.words.now,
  c.in_ok-words.ensures.words rest h,
  record {
    name = c.in_ok-name.ensures.one;
    are_operands = c.in_ok-words.ensures.operands;
    has_distlib = c.in_ok-distlib.ensures.some;
    has_syslib = c.in_ok-syslib.ensures.some;
  },
)
