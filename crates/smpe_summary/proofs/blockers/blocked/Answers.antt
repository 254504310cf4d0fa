use Rattle.std.proofs.Common.{◌∙◌, ap, arith, sym, take_all}
use Rattle.std.specs.List.{flat_map}
use Rattle.std.proofs.lemmas.List.Folds.{flat_map-map}
use Rattle.std.specs.Ordering.{nat_cmp}
use Rattle.std.specs.Cmp.Lexicographic.{slice_cmp}
use Rattle.sorted.specs.MultiMap.{listed}
use Rattle.report.specs.Views.{line_view}
use Rattle.smpe_summary.specs.Asked.{Asked}
use Rattle.smpe_summary.specs.Blocked.{blocked_in}
use Rattle.smpe_summary.proofs.blockers.blocked.Goals as goal

pub returns : goal.returns
returns c y =
    let a = c.args.asked.now in
    let supers = listed (slice_cmp nat_cmp) c.args.supers.now in
    let lines = c.asked.inside.lines.now in
    c.loop-line.invariant y
    ∙ ap (flat_map (λ x. blocked_in a supers y (line_view x))) (take_all c.loop-line.line-index lines (omega arith))
    ∙ sym (flat_map-map (blocked_in a supers y) line_view lines)
    ∙ ap (λ (b : Asked). flat_map (blocked_in a supers y) b.lines) c.asked.view_is
