use Rattle.std.proofs.Common.{◌≡◌, map, take}
use Rattle.store_zones.proofs.head.names_of_heads.Given as goal

-- the names so far
abbrev pub invariant-loop-head : goal.invariant-loop-head
invariant-loop-head l = l.names.items ≡ map (λ h. h.name) (take l.head-index l.heads)
