use Rattle.std.proofs.Common.{◌≡◌, ◌++◌, drop}
use Rattle.intake_list.specs.Entries.{keys_below}
use Rattle.intake_list.proofs.entry.add_keys_below.Given as goal

-- the keys so far, and those of the lines that are left
abbrev pub invariant-loop-i : goal.invariant-loop-i
invariant-loop-i l =
    l.keys.items ++ keys_below (drop l.i l.below) ≡ l.fn.keys.items ++ keys_below l.below
