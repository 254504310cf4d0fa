use Rattle.std.proofs.Common.{◌≡◌, ◌++◌, map, take}
use Rattle.change.proofs.plan.touched_ids.Given as goal

-- the superseded ids so far are there
abbrev pub invariant-loop-pair : goal.invariant-loop-pair
invariant-loop-pair l = l.ids.items ≡ map (λ p. p.0) (take l.pair-index l.superseded)

-- the ids of the entries so far are there
abbrev pub invariant-loop-entry : goal.invariant-loop-entry
invariant-loop-entry l = l.ids.items ≡ l.initial.ids.items ++ map (λ e. e.id) (take l.entry-index l.entry-items)
