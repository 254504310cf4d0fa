use Rattle.std.proofs.Common.{◌-◌, arith, get_or}
use Rattle.std.specs.Char.{IsAsciiDigit}
use Rattle.std.proofs.lemmas.List.Elements.{All-more}
use Rattle.text80.proofs.Numbers.{digits_more, room, bound_more}
use Rattle.text80.proofs.line.number_in.Goals as goal

pub overflow_mul-number : goal.overflow_mul-number
overflow_mul-number c = omega (
  arith,
  room c.loop-digit.digit-index c.loop-digit.number (omega arith)
      c.loop-digit.invariant.bound,
)

pub overflow_add-number : goal.overflow_add-number
overflow_add-number c =
    let digit = c.if-not-is_ascii_digit.ensures.cases in
    omega (arith, digit, room c.loop-digit.digit-index c.loop-digit.number (omega arith) c.loop-digit.invariant.bound)

pub loop-digit-preserved : goal.loop-digit-preserved
loop-digit-preserved c =
    let text = c.args.text.now in
    let i = c.loop-digit.digit-index in
    let digit = c.if-not-is_ascii_digit.ensures.cases in
    record {
      digits = All-more IsAsciiDigit text i 0 c.loop-digit-test.true c.loop-digit.invariant.digits digit;
      value = rw c.from.ensures (digits_more text i c.loop-digit.number c.loop-digit-test.true digit
          c.loop-digit.invariant.value);
      bound = rw c.from.ensures (bound_more i c.loop-digit.number (get_or text i 0 - 48) c.loop-digit.invariant.bound
          (omega (arith, digit)));
    }
