-- Numbers of eight digits, read digit by digit.
use Rattle.std.proofs.Common.{◌≡◌, ◌≤◌, ◌<◌, ◌+◌, ◌*◌, ◌-◌, ◌^◌, ℕ, List, length, take, get_or, arith, ap, sym, ◌∙◌}
use Rattle.std.proofs.lemmas.Bool.Decides.{nat_tests}
use Rattle.std.proofs.lemmas.Grind.{pow_more}
use Rattle.std.proofs.lemmas.Int.Digits.{digits_value_more}
use Rattle.std.proofs.Math.Nat.{pow-le-pow_right}
use Rattle.std.specs.Char.{IsAsciiDigit, digit_value}
use Rattle.std.specs.Str.Parse.{digits_value}

digit_is : (d : ℕ) → 48 ≤ d → d ≤ 57 → digit_value d ≡ d - 48
digit_is d low high = grind (arith, nat_tests)

pub digits_more : (text : List ℕ) (i n : ℕ) → i < length text → IsAsciiDigit (get_or text i 0)
    → n ≡ digits_value 10 (take i text) → n * 10 + (get_or text i 0 - 48) ≡ digits_value 10 (take (i + 1) text)
digits_more text i n below digit value =
    ap (λ m. m * 10 + (get_or text i 0 - 48)) value
    ∙ ap (λ d. digits_value 10 (take i text) * 10 + d) (sym (digit_is (get_or text i 0) digit.0 digit.1))
    ∙ sym (digits_value_more 10 text i below)

-- fewer than eight digits have a small value
pub room : (i n : ℕ) → i < 8 → n < 10 ^ i → n < 10000000
room i n below bound =
    let few : i ≤ 7 = omega arith in
    let most : 10 ^ i ≤ 10 ^ 7 = pow-le-pow_right {n = 10} (omega arith) few in
    omega (arith, most, bound)

pub bound_more : (i n d : ℕ) → n < 10 ^ i → d ≤ 9 → n * 10 + d < 10 ^ (i + 1)
bound_more i n d bound digit = rw pow_more (omega (arith, bound, digit))
