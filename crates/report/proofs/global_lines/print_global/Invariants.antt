use Rattle.std.proofs.Common.{map}
use Rattle.std.specs.List.{flat_map}
use Rattle.machine.specs.Outcome.{SysmodLine, HoldLine}
use Rattle.machine.specs.Report.{line_text}
use Rattle.report.proofs.UnderWay.{UnderWay}
use Rattle.report.proofs.global_lines.print_global.Given as goal

abbrev pub invariant-loop-sysmod : goal.invariant-loop-sysmod
invariant-loop-sysmod g l =
    UnderWay g.W.Sink l.initial.page l.page
    (flat_map line_text (map (λ s. SysmodLine s.id s.kind s.sources) l.global.sysmods))
    (flat_map line_text (map (λ s. SysmodLine s.id s.kind s.sources) l.sysmod-iterator))

abbrev pub invariant-loop-hold : goal.invariant-loop-hold
invariant-loop-hold g l =
    UnderWay g.W.Sink l.initial.page l.page
    (flat_map line_text (map (λ h. HoldLine h.id h.kind h.reason h.internal) l.global.holds))
    (flat_map line_text (map (λ h. HoldLine h.id h.kind h.reason h.internal) l.hold-iterator))
