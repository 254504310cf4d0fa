use Rattle.std.proofs.Common.{◌≡◌, ◌++◌, take}
use Rattle.std.specs.List.{flat_map}
use Rattle.zones.specs.Scopes.{setting_of}
use Rattle.why_verdict.specs.Conflicts.{deletions_by, clashes_with}
use Rattle.why_verdict.proofs.conflicts.conflicts_of.Given as goal

abbrev pub invariant-loop-by : goal.invariant-loop-by
invariant-loop-by l = l.found.items ≡ flat_map (deletions_by (setting_of l.scope) l.id) (take l.by-index l.by-items)

abbrev pub invariant-loop-partner : goal.invariant-loop-partner
invariant-loop-partner l =
    l.found.items ≡ l.initial.found.items
    ++ flat_map (clashes_with (setting_of l.scope) l.id) (take l.partner-index l.partner-items)
