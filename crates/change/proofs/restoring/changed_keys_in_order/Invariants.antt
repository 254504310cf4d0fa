use Rattle.std.proofs.Common.{◌≡◌, ◌++◌, map, take}
use Rattle.terms.specs.Lookups.{change_key}
use Rattle.change.specs.Restoring.{all_changed}
use Rattle.change.proofs.restoring.changed_keys_in_order.Given as goal

-- what the SYSMODs so far change
abbrev pub invariant-loop-id : goal.invariant-loop-id
invariant-loop-id l = l.changed.items ≡ all_changed l.global (take l.id-index l.id-items)

-- the elements of the statements so far
abbrev pub invariant-loop-change : goal.invariant-loop-change
invariant-loop-change l =
    l.changed.items ≡ l.initial.changed.items ++ map change_key (take l.change-index l.changes)
