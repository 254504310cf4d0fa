use Rattle.std.proofs.Common.{◌∙◌, [], ap, arith, map, sym, take_all}
use Rattle.std.specs.List.{flat_map}
use Rattle.std.proofs.lemmas.List.Folds.{flat_map-map}
use Rattle.std.specs.Ordering.{nat_cmp}
use Rattle.std.specs.Cmp.Lexicographic.{slice_cmp}
use Rattle.sorted.specs.MultiMap.{listed}
use Rattle.report.specs.Views.{line_view}
use Rattle.smpe_summary.specs.Causes.{cause_in}
use Rattle.smpe_summary.specs.Views.{cause_view}
use Rattle.smpe_summary.proofs.Growing.{grown_more}
use Rattle.smpe_summary.proofs.causes.causes_by_line.Goals as goal

pub loop-line-preserved : goal.loop-line-preserved
loop-line-preserved c =
    grown_more (λ x. cause_in (c.args.global.now) (listed (slice_cmp nat_cmp) (c.args.blocks.now)) (line_view x))
    c.args.lines.now c.loop-line.line-index c.line-item.result []
    (map cause_view c.loop-line.causes.items) (map cause_view c.push_cause.new.causes.items) (omega arith) c.line-item.is
    c.loop-line.invariant
    c.in_ok-push_cause.ensures

pub returns : goal.returns
returns c =
    c.loop-line.invariant
    ∙ ap (flat_map (λ x. cause_in (c.args.global.now) (listed (slice_cmp nat_cmp) (c.args.blocks.now)) (line_view x)))
    (take_all c.loop-line.line-index c.args.lines.now (omega arith))
    ∙ sym (flat_map-map (cause_in c.args.global.now (listed (slice_cmp nat_cmp) c.args.blocks.now)) line_view c.args.lines.now)
