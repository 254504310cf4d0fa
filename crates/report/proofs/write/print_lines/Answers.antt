use Rattle.std.proofs.Common.{◌∙◌, ap, take, map, arith, sym}
use Rattle.std.specs.List.{flat_map}
use Rattle.std.specs.Prelude.{max}
use Rattle.std.proofs.Common.{take_all, ◌++◌, ◌+◌, drop}
use Rattle.std.proofs.lemmas.List.Folds.{flat_map-map}
use Rattle.machine.specs.Outcome.{lines_code, line_code}
use Rattle.machine.specs.Report.{line_text}
use Rattle.report.specs.Views.{line_view}
use Rattle.report.proofs.Paging.{paged_then, paged_as}
use Rattle.report.proofs.Texts.{flat_map_more, codes_more}
use Rattle.report.proofs.write.print_lines.Goals as goal

pub loop-line-preserved : goal.loop-line-preserved
loop-line-preserved g c = record {
  paged =
      paged_as _ _ _ _ _ _
      (ap (λ x. flat_map (λ x. line_text (line_view x)) (take c.loop-line.line-index c.args.lines.now)
      ++ line_text (line_view x)) c.line-item.is
      ∙ flat_map_more (λ x. line_text (line_view x)) c.args.lines.now c.loop-line.line-index c.line-item.result
      c.loop-line-test.true)
      (paged_then _ _ _ _ _ _ _ _ c.loop-line.invariant.paged c.print_line.ensures);
  code =
      ap (λ k. max k (lines_code (map line_view (drop (c.loop-line.line-index + 1) c.args.lines.now))))
      (c.max-code.ensures ∙ ap (λ k. max c.loop-line.code k)
      (c.line_code.ensures.code ∙ ap (λ x. line_code (line_view x)) c.line-item.is))
      ∙ codes_more c.args.lines.now c.loop-line.line-index c.line-item.result c.loop-line.code c.loop-line-test.true
      ∙ c.loop-line.invariant.code;
  most = omega (arith, c.max-code.ensures, c.line_code.ensures.most, c.loop-line.invariant.most);
}

pub returns-clause-paged : goal.returns-clause-paged
returns-clause-paged g c =
    paged_as _ _ _ _ _ _
    (ap (flat_map (λ x. line_text (line_view x))) (take_all _ c.args.lines.now c.loop-line-test.false)
    ∙ sym (flat_map-map line_text line_view c.args.lines.now))
    c.loop-line.invariant.paged
