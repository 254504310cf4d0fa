use Rattle.std.proofs.Common.{◌≡◌, ◌++◌, map, drop}
use Rattle.intake_list.specs.Entries.{values_below}
use Rattle.intake_list.proofs.entry.add_values_below.Given as goal

-- the values so far, and those of the lines that are left
abbrev pub invariant-loop-row : goal.invariant-loop-row
invariant-loop-row l =
    map (λ word. word.now) l.values.items ++ values_below (drop l.row-index l.below)
    ≡ map (λ word. word.now) l.fn.values.items ++ values_below l.below
