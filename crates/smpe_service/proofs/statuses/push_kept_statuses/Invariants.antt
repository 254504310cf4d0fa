use Rattle.std.proofs.Common.{◌≡◌, ◌++◌, map, take}
use Rattle.smpe_service.specs.Statuses.{id_and_status, kept_statuses}
use Rattle.smpe_service.proofs.statuses.push_kept_statuses.Given as goal

-- the kept ones so far
abbrev pub invariant-loop-id : goal.invariant-loop-id
invariant-loop-id l =
    map id_and_status l.statuses.items ≡ map id_and_status l.initial.statuses.items
    ++ kept_statuses l.kind l.effective (take l.id-index l.kept)
