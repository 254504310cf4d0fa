use Rattle.std.proofs.Common.{◌++◌, ◌∙◌, ap, arith, map, take_all}
use Rattle.std.specs.List.{flat_map}
use Rattle.why_verdict.specs.Verdict.{supply_by}
use Rattle.report.specs.Views.{line_view}
use Rattle.report.proofs.Texts.{flat_more}
use Rattle.why_verdict.proofs.besides.append_suppliers.Goals as goal

pub loop-by-preserved : goal.loop-by-preserved
loop-by-preserved c =
    flat_more (λ y. flat_map (supply_by c.args.kind c.args.id.now y) (map line_view c.args.lines.now)) c.args.ids.now
    c.loop-by.by-index c.by-item.result c.args.text.now.items
    c.loop-by.text.items c.append_supplier.new.text.items (omega arith) c.by-item.is c.loop-by.invariant
    c.in_ok-append_supplier.ensures

pub returns : goal.returns
returns c =
    c.loop-by.invariant
    ∙ ap (λ l. c.args.text.now.items ++ flat_map (λ y. flat_map (supply_by c.args.kind c.args.id.now y) (map line_view
    c.args.lines.now)) l)
    (take_all c.loop-by.by-index c.args.ids.now (omega arith))
