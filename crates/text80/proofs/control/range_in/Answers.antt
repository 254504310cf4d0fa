use Rattle.std.proofs.Common.{◌≡◌, sym, ◌∙◌, ap, subst, arith}
use Rattle.std.specs.Str.Parse.{digits_value}
use Rattle.terms.specs.Texts.{IsNumber}
use Rattle.text80.proofs.ControlCuts.{range_from, range_parts, range_end}
use Rattle.text80.proofs.control.range_in.Goals as goal

pub returns-in_err-to-clause-none : goal.returns-in_err-to-clause-none
returns-in_err-to-clause-none c =
    rw c.from_residual-in_err-to.ensures (λ low high r.
    c.in_err-to.ensures.none r.to (c.split_at.ensures.back ∙ (range_parts c.args.operand.now c.in_ok-text.text.now low
    high r c.in_ok-text.ensures.some).1))

pub returns-in_err-high-clause-none : goal.returns-in_err-high-clause-none
returns-in_err-high-clause-none c =
    rw c.from_residual-in_err-high.ensures (λ low high r.
    let to = range_end c.args.operand.now c.in_ok-text.text.now c.split_at.result.1.now c.in_ok-to.to.now low high r
    c.in_ok-text.ensures.some c.split_at.ensures.back c.in_ok-to.ensures.some in
    c.in_err-high.ensures.none (subst IsNumber (sym to) r.numbers.1))

pub returns-then-low-high-clause-none : goal.returns-then-low-high-clause-none
returns-then-low-high-clause-none c low high r =
    let from = c.split_at.ensures.front ∙ (range_parts c.args.operand.now c.in_ok-text.text.now low high r
    c.in_ok-text.ensures.some).0 in
    let to = range_end c.args.operand.now c.in_ok-text.text.now c.split_at.result.1.now c.in_ok-to.to.now low high r
    c.in_ok-text.ensures.some c.split_at.ensures.back c.in_ok-to.ensures.some in
    let low_is : c.in_ok-low.low ≡ low = c.in_ok-low.ensures.some.1 ∙ ap (digits_value 10) from ∙ sym r.low_is in
    let high_is : c.in_ok-high.high ≡ high = c.in_ok-high.ensures.some.1 ∙ ap (digits_value 10) to ∙ sym r.high_is in
    let order = r.order in
    omega (arith, low_is, high_is, order)

pub returns-clause-some : goal.returns-clause-some
returns-clause-some c =
    range_from c.args.operand.now c.in_ok-text.text.now c.split_at.result.1.now c.in_ok-to.to.now _ _
    c.in_ok-text.ensures.some c.split_at.ensures.back c.in_ok-to.ensures.some
    (subst IsNumber c.split_at.ensures.front c.in_ok-low.ensures.some.0) c.in_ok-high.ensures.some.0
    (c.in_ok-low.ensures.some.1 ∙ ap (digits_value 10) c.split_at.ensures.front) c.in_ok-high.ensures.some.1
    (omega arith)
