use Rattle.std.proofs.Common.{◌≡◌, ◌≤◌, map, take, drop}
use Rattle.std.specs.Prelude.{max}
use Rattle.std.specs.List.{flat_map}
use Rattle.machine.specs.Outcome.{lines_code}
use Rattle.machine.specs.Report.{line_text}
use Rattle.report.specs.Paged.{Paged}
use Rattle.report.specs.Views.{line_view}
use Rattle.report.proofs.write.print_lines.Given as goal

abbrev pub invariant-loop-line : goal.invariant-loop-line
invariant-loop-line g l = record {
  paged : Paged g.W.Sink l.initial.page l.page
      (flat_map (λ x. line_text (line_view x)) (take l.line-index l.lines));
  code : max l.code (lines_code (map line_view (drop l.line-index l.lines))) ≡ lines_code (map line_view l.lines);
  most : l.code ≤ 12;
}
