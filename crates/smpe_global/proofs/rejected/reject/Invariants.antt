use Rattle.std.proofs.Common.{take}
use Rattle.smpe_global.specs.Rejections.{AreRejected}
use Rattle.smpe_global.proofs.rejected.reject.Given as goal

-- the ids so far
abbrev pub invariant-loop-id : goal.invariant-loop-id
invariant-loop-id l = AreRejected l.zones l.initial.global (take l.id-index l.id-items) l.global l.change.edits.items
    l.change.lines.items
