use Rattle.std.proofs.Common.{take}
use Rattle.smpe_global.specs.Edits.{AreEditsOf}
use Rattle.smpe_global.proofs.edits.sysmod_edits.Given as goal

-- the holds so far
abbrev pub invariant-loop-hold : goal.invariant-loop-hold
invariant-loop-hold l =
    AreEditsOf (record l.sysmod { holds = take l.hold-index l.holds }) l.edits.items
