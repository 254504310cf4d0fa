use Rattle.std.proofs.Common.{◌≡◌, ◌++◌, map, take}
use Rattle.smpe_service.proofs.restored.listed_ids.Given as goal

-- the candidates, and those so far that are left out
abbrev pub invariant-loop-id : goal.invariant-loop-id
invariant-loop-id l = l.ids.items ≡ l.initial.ids.items ++ map (λ p. p.0) (take l.id-index l.id-items)
