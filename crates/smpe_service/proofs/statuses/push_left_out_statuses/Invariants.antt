use Rattle.std.proofs.Common.{◌≡◌, ◌++◌, map, take}
use Rattle.smpe_service.specs.Statuses.{id_and_status, left_out_statuses}
use Rattle.smpe_service.proofs.statuses.push_left_out_statuses.Given as goal

-- those left out so far
abbrev pub invariant-loop-id : goal.invariant-loop-id
invariant-loop-id l =
    map id_and_status l.statuses.items ≡ map id_and_status l.initial.statuses.items
    ++ left_out_statuses (take l.id-index l.left_out)
