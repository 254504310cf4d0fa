use Rattle.std.proofs.Common.{◌≡◌, not, filter, take}
use Rattle.zones.proofs.entry.remaining_ids.Given as goal

-- those of the ids so far that stay
abbrev pub invariant-loop-id : goal.invariant-loop-id
invariant-loop-id g l = l.left.items ≡ filter (λ y. not (g.T.TakesOut.is_gone l.taking y)) (take l.id-index l.ids)
