use Rattle.std.proofs.Common.{take}
use Rattle.std.specs.List.{flat_map}
use Rattle.machine.specs.Outcome.{EntryLine, element_lines}
use Rattle.machine.specs.Report.{line_text}
use Rattle.report.specs.Paged.{Paged}
use Rattle.report.proofs.zone_lines.print_zone.Given as goal

abbrev pub invariant-loop-entry : goal.invariant-loop-entry
invariant-loop-entry g l =
    Paged g.W.Sink l.initial.page l.page
    (flat_map (λ e. line_text (EntryLine l.fn.zone.kind e)) (take l.entry-index l.entry-items))

abbrev pub invariant-loop-element : goal.invariant-loop-element
invariant-loop-element g l =
    Paged g.W.Sink l.initial.page l.page
    (flat_map (λ e. flat_map line_text (element_lines l.fn.text e)) (take l.element-index l.element-items))
