use Rattle.std.proofs.Common.{◌++◌, ◌∙◌, ap, arith, map, sym, take_all}
use Rattle.std.specs.List.{flat_map}
use Rattle.std.proofs.lemmas.List.Folds.{flat_map-map}
use Rattle.why_verdict.specs.Verdict.{need_told}
use Rattle.report.specs.FactViews.{fact_view}
use Rattle.judge_system.specs.Views.{need_view}
use Rattle.report.proofs.Texts.{flat_more}
use Rattle.why_verdict.proofs.verdict.append_needs.Goals as goal

pub loop-need-preserved : goal.loop-need-preserved
loop-need-preserved c =
    flat_more (λ n. need_told (map fact_view c.args.facts.now) (need_view n)) c.args.needs.now c.loop-need.need-index
    c.need-item.result c.args.text.now.items
    c.loop-need.text.items c.append_need.new.text.items (omega arith) c.need-item.is c.loop-need.invariant
    c.in_ok-append_need.ensures

pub returns : goal.returns
returns c =
    c.loop-need.invariant
    ∙ ap (λ l. c.args.text.now.items ++ flat_map (λ n. need_told (map fact_view c.args.facts.now) (need_view n)) l)
    (take_all c.loop-need.need-index c.args.needs.now (omega arith))
    ∙ ap (λ l. c.args.text.now.items ++ l)
    (sym (flat_map-map (need_told (map fact_view c.args.facts.now)) need_view c.args.needs.now))
