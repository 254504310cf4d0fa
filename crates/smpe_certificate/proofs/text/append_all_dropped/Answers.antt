use Rattle.std.proofs.Common.{◌++◌, ◌∙◌, ap, sym, arith, take_all}
use Rattle.std.specs.List.{flat_map}
use Rattle.std.proofs.lemmas.List.Folds.{flat_map-map}
use Rattle.smpe_certificate.specs.Text.{dropped_line}
use Rattle.smpe_certificate.specs.Views.{dropped_view}
use Rattle.report.proofs.Texts.{flat_more}
use Rattle.smpe_certificate.proofs.text.append_all_dropped.Goals as goal

pub loop-fact-preserved : goal.loop-fact-preserved
loop-fact-preserved c =
    flat_more (λ f. dropped_line (dropped_view f)) c.args.facts.now c.loop-fact.fact-index c.fact-item.result
    c.args.text.now.items c.loop-fact.text.items c.append_dropped.new.text.items (omega arith) c.fact-item.is
    c.loop-fact.invariant
    c.in_ok-append_dropped.ensures

pub returns : goal.returns
returns c =
    c.loop-fact.invariant
    ∙ ap (λ l. c.args.text.now.items ++ flat_map (λ f. dropped_line (dropped_view f)) l)
    (take_all c.loop-fact.fact-index c.args.facts.now (omega arith))
    ∙ ap (λ l. c.args.text.now.items ++ l) (sym (flat_map-map dropped_line dropped_view c.args.facts.now))
