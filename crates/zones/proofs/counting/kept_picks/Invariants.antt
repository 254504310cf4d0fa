use Rattle.std.proofs.Common.{◌≡◌, filter, map, take}
use Rattle.zones.specs.Picks.{kept_pick, is_further}
use Rattle.zones.proofs.counting.kept_picks.Given as goal

-- those of the entries so far
abbrev pub invariant-loop-entry : goal.invariant-loop-entry
invariant-loop-entry l = l.picks.items ≡ filter is_further (map kept_pick (take l.entry-index l.entry-items))
