use Rattle.std.proofs.Common.{◌≡◌, ◌++◌, take}
use Rattle.std.specs.List.{flat_map}
use Rattle.zones.specs.Scopes.{setting_of}
use Rattle.why_verdict.specs.Conflicts.{deletion_of}
use Rattle.why_verdict.proofs.conflicts.push_deletions.Given as goal

abbrev pub invariant-loop-del : goal.invariant-loop-del
invariant-loop-del l =
    l.found.items ≡ l.initial.found.items ++ flat_map (deletion_of (setting_of l.scope) l.id l.by) (take l.del-index
    l.del-items)
