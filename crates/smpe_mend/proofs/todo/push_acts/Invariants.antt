use Rattle.std.proofs.Common.{◌≡◌, ◌++◌, drop}
use Rattle.std.specs.List.{flat_map}
use Rattle.smpe_mend.specs.Words.{act_on}
use Rattle.smpe_mend.proofs.todo.push_acts.Given as goal

-- with what the rest adds, all of it
abbrev pub invariant-loop-id : goal.invariant-loop-id
invariant-loop-id l =
    l.found.items ++ flat_map (act_on l.global l.fn.kind l.fn.reason) (drop l.id-index l.ids)
    ≡ l.fn.found.items ++ flat_map (act_on l.global l.fn.kind l.fn.reason) l.ids
