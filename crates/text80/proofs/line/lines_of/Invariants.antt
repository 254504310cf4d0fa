use Rattle.std.proofs.Common.{◌≡◌, ◌++◌, ◌%◌, List, ℕ, length}
use Rattle.terms.specs.Texts.{HasLines}
use Rattle.text80.proofs.line.lines_of.Given as goal

abbrev pub invariant-loop-rest : goal.invariant-loop-rest
invariant-loop-rest l = record {
  front : List ℕ;
  bytes_are : l.bytes ≡ front ++ l.rest;
  lines : HasLines front l.lines.items;
  whole : length l.rest % 80 ≡ 0;
}

abbrev pub decreases-loop-rest : goal.decreases-loop-rest
decreases-loop-rest l = length l.rest
