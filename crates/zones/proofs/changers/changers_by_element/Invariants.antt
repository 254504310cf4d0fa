use Rattle.std.proofs.Common.{take}
use Rattle.zones.specs.Grouping.{AddsBy, AreByElement}
use Rattle.zones.proofs.changers.changers_by_element.Given as goal

-- the SYSMODs so far are added
abbrev pub invariant-loop-id : goal.invariant-loop-id
invariant-loop-id l = AreByElement l.global (take l.id-index l.ids) l.changers

-- the SYSMOD is added by the statements so far
abbrev pub invariant-loop-change : goal.invariant-loop-change
invariant-loop-change l = AddsBy l.id (take l.change-index l.changes) l.initial.changers l.changers
