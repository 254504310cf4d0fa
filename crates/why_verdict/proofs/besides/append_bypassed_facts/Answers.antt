use Rattle.std.proofs.Common.{◌++◌, ◌∙◌, ap, arith, sym, take_all}
use Rattle.std.specs.List.{flat_map}
use Rattle.std.proofs.lemmas.List.Folds.{flat_map-map}
use Rattle.why_verdict.specs.Verdict.{bypassed_told}
use Rattle.report.specs.FactViews.{fact_view}
use Rattle.report.proofs.Texts.{flat_more}
use Rattle.why_verdict.proofs.besides.append_bypassed_facts.Goals as goal

pub loop-fact-preserved : goal.loop-fact-preserved
loop-fact-preserved c =
    flat_more (λ f. bypassed_told c.args.bypass.now (fact_view f)) c.args.facts.now c.loop-fact.fact-index
    c.fact-item.result c.args.text.now.items
    c.loop-fact.text.items c.append_bypassed_fact.new.text.items (omega arith) c.fact-item.is c.loop-fact.invariant
    c.in_ok-append_bypassed_fact.ensures

pub returns : goal.returns
returns c =
    c.loop-fact.invariant
    ∙ ap (λ l. c.args.text.now.items ++ flat_map (λ f. bypassed_told c.args.bypass.now (fact_view f)) l)
    (take_all c.loop-fact.fact-index c.args.facts.now (omega arith))
    ∙ ap (λ l. c.args.text.now.items ++ l) (sym (flat_map-map (bypassed_told c.args.bypass.now) fact_view
    c.args.facts.now))
