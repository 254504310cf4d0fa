use Rattle.std.proofs.Common.{◌≡◌, ◌++◌, take}
use Rattle.std.specs.List.{flat_map}
use Rattle.zones.specs.Scopes.{global_of}
use Rattle.why_verdict.specs.Conflicts.{share_of}
use Rattle.why_verdict.proofs.conflicts.push_shared_elements.Given as goal

abbrev pub invariant-loop-change : goal.invariant-loop-change
invariant-loop-change l =
    l.found.items ≡ l.initial.found.items
    ++ flat_map (share_of (global_of l.scope) l.with l.apart) (take l.change-index l.changes)
