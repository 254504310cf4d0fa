use Rattle.std.proofs.Common.{◌∙◌, [], ap, arith, sym, take_all}
use Rattle.std.specs.List.{flat_map}
use Rattle.std.proofs.lemmas.List.Folds.{flat_map-map}
use Rattle.smpe_summary.specs.Asked.{meets, id_where}
use Rattle.report.specs.Views.{line_view}
use Rattle.smpe_summary.proofs.Growing.{grown_more}
use Rattle.smpe_summary.proofs.lines.ids_where.Goals as goal

pub loop-line-preserved : goal.loop-line-preserved
loop-line-preserved c =
    grown_more (λ line. id_where (meets c.args.condition) (line_view line)) c.args.lines.now c.loop-line.line-index
    c.line-item.result []
    c.loop-line.found.items c.push_id_where.new.found.items (omega arith) c.line-item.is c.loop-line.invariant
    c.in_ok-push_id_where.ensures

pub returns : goal.returns
returns c =
    c.loop-line.invariant
    ∙ ap (flat_map (λ line. id_where (meets c.args.condition) (line_view line)))
    (take_all c.loop-line.line-index c.args.lines.now (omega arith))
    ∙ sym (flat_map-map (id_where (meets c.args.condition)) line_view c.args.lines.now)
