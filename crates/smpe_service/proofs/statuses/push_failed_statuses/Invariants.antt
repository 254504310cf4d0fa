use Rattle.std.proofs.Common.{◌≡◌, ◌++◌, length, map}
use Rattle.std.specs.Vec.Iter.{into_iter_items, into_iter_len}
use Rattle.judge_system.specs.Views.{why_failed}
use Rattle.smpe_service.specs.Statuses.{id_and_status, failed_statuses}
use Rattle.smpe_service.proofs.statuses.push_failed_statuses.Given as goal

-- the failed ones so far
abbrev pub invariant-loop-id : goal.invariant-loop-id
invariant-loop-id l =
    (l.yielded ++ into_iter_items l.id-iterator ≡ into_iter_items l.initial.id-iterator)
    × (map id_and_status l.statuses.items ≡ map id_and_status l.initial.statuses.items
    ++ failed_statuses (map why_failed l.yielded))
    × (into_iter_len l.id-iterator ≡ length (into_iter_items l.id-iterator))
