use Rattle.std.proofs.Common.{take}
use Rattle.std.specs.List.{flat_map}
use Rattle.machine.specs.Outcome.{TextLine}
use Rattle.machine.specs.Report.{line_text}
use Rattle.report.specs.Paged.{Paged}
use Rattle.report.proofs.zone_lines.print_element.Given as goal

abbrev pub invariant-loop-record : goal.invariant-loop-record
invariant-loop-record g l =
    Paged g.W.Sink l.initial.page l.page (flat_map (λ r. line_text (TextLine r)) (take l.record-index l.record-items))
