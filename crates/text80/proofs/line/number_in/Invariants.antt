use Rattle.std.proofs.Common.{◌≡◌, ◌<◌, ◌^◌, take}
use Rattle.std.specs.List.{All}
use Rattle.std.specs.Char.{IsAsciiDigit}
use Rattle.std.specs.Str.Parse.{digits_value}
use Rattle.text80.proofs.line.number_in.Given as goal

abbrev pub invariant-loop-digit : goal.invariant-loop-digit
invariant-loop-digit l = record {
  digits : All IsAsciiDigit (take l.digit-index l.text);
  value : l.number ≡ digits_value 10 (take l.digit-index l.text);
  bound : l.number < 10 ^ l.digit-index;
}
