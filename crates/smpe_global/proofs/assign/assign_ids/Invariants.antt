use Rattle.std.proofs.Common.{take}
use Rattle.machine.specs.Receiving.{AssignsId}
use Rattle.machine.specs.Runs.{Runs}
use Rattle.smpe_global.specs.Taken.{IsTaken}
use Rattle.smpe_global.proofs.assign.assign_ids.Given as goal

-- the ids so far
abbrev pub invariant-loop-id : goal.invariant-loop-id
invariant-loop-id l = IsTaken (Runs (AssignsId l.source) l.initial.global (take l.id-index l.ids)) l.initial.global
    l.global l.initial.change l.change
