use Rattle.std.proofs.Common.{◌≡◌, ◌++◌, map, drop}
use Rattle.intake_list.specs.Says.{values_in}
use Rattle.intake_list.proofs.says.values_under.Given as goal

-- the values so far, and those of the keys that are left
abbrev pub invariant-loop-key : goal.invariant-loop-key
invariant-loop-key l =
    map (λ word. word.now) l.values.items ++ values_in l.name (drop l.key-index l.all) ≡ values_in l.name l.all
