use Rattle.std.proofs.Common.{◌≡◌, take}
use Rattle.judge_system.proofs.numbered.number_ids.Given as goal

-- the ids so far
abbrev pub invariant-loop-id : goal.invariant-loop-id
invariant-loop-id l = l.numbered.keys ≡ take l.id-index l.ids
