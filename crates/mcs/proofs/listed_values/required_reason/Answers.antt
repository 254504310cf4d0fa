use Rattle.std.proofs.Common.{◌∙◌, sym, subst}
use Rattle.std.proofs.lemmas.Bool.{true≢false}
use Rattle.terms.specs.Forms.{IsClass, IsReason}
use Rattle.terms.specs.Operands.{operand}
use Rattle.terms.proofs.ExactOperands.{required_only}
use Rattle.rec80.specs.Views.{words_of}
use Rattle.mcs.proofs.HoldKeys.{reason_class, reason_form, class_reason}
use Rattle.mcs.proofs.listed_values.required_reason.Goals as goal

pub returns-in_err-reason-clause-none : goal.returns-in_err-reason-clause-none
returns-in_err-reason-clause-none c =
    rw c.from_residual.ensures (λ v h. c.in_err-reason.ensures.none v
    (reason_class c.args.kind (operand c.args.name.now (words_of c.args.words.now)) v h))

pub returns-then-not-suits-clause-none : goal.returns-then-not-suits-clause-none
returns-then-not-suits-clause-none c = λ v h.
    let found = operand c.args.name.now (words_of c.args.words.now) in
    let same = required_only IsClass found v c.in_ok-reason.reason (reason_class c.args.kind found v h)
    c.in_ok-reason.ensures.some in
    true≢false (sym (c.suits.ensures.1 (subst (IsReason c.args.kind) same (reason_form c.args.kind found v h)))
    ∙ c.if-not-suits.true)

pub returns-clause-some : goal.returns-clause-some
returns-clause-some c =
    class_reason c.args.kind (operand c.args.name.now (words_of c.args.words.now)) c.in_ok-reason.reason
    c.in_ok-reason.ensures.some (c.suits.ensures.0 c.if-not-suits.false)

pub returns-clause-form : goal.returns-clause-form
returns-clause-form c = c.suits.ensures.0 c.if-not-suits.false
