use Rattle.std.proofs.Common.{◌≡◌, ◌++◌, length}
use Rattle.store_zones.specs.Numbered.{numbered, left_over}
use Rattle.store_zones.proofs.numbering.entries_with_numbers.Given as goal

-- what the rest becomes, behind those so far, is what all become
abbrev pub invariant-loop-entry : goal.invariant-loop-entry
invariant-loop-entry l = record {
  same : l.all.items ++ numbered l.entries.items l.numbers.items ≡ numbered l.fn.entries.items l.fn.numbers.items;
  left : left_over l.entries.items l.numbers.items ≡ left_over l.fn.entries.items l.fn.numbers.items;
}

abbrev pub decreases-loop-entry : goal.decreases-loop-entry
decreases-loop-entry l = length l.entries.items
