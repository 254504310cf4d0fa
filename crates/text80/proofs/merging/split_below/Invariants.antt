use Rattle.std.proofs.Common.{◌<◌, take}
use Rattle.std.specs.List.{All}
use Rattle.terms.specs.Texts.{number_of}
use Rattle.text80.proofs.merging.split_below.Given as goal

abbrev pub invariant-loop-i : goal.invariant-loop-i
invariant-loop-i l = All (λ line. number_of line < l.number) (take l.i l.lines)
