use Rattle.std.proofs.Common.{◌≡◌, ◌++◌, drop}
use Rattle.std.specs.List.{flat_map}
use Rattle.smpe_mend.specs.Actions.{reason_of}
use Rattle.smpe_mend.proofs.action.reasons.Given as goal

-- with what the rest adds, all of it
abbrev pub invariant-loop-action : goal.invariant-loop-action
invariant-loop-action l =
    l.found.items ++ flat_map (reason_of l.fn.kind) (drop l.action-index l.actions)
    ≡ flat_map (reason_of l.fn.kind) l.actions
