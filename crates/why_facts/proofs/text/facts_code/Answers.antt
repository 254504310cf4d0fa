use Rattle.std.proofs.Common.{◌+◌, ◌∙◌, ap, map, drop, arith}
use Rattle.std.specs.Prelude.{max}
use Rattle.why_facts.specs.FactText.{fact_code, facts_code}
use Rattle.report.specs.FactViews.{fact_view}
use Rattle.why_facts.proofs.TextParts.{codes_more}
use Rattle.why_facts.proofs.text.facts_code.Goals as goal

pub loop-fact-preserved : goal.loop-fact-preserved
loop-fact-preserved c =
    ap (λ k. max k (facts_code (map fact_view (drop (c.loop-fact.fact-index + 1) c.args.facts.now))))
    (c.max-code.ensures ∙ ap (λ k. max c.loop-fact.code k)
    (c.fact_code.ensures ∙ ap (λ f. fact_code (fact_view f)) c.fact-item.is))
    ∙ codes_more c.args.facts.now c.loop-fact.fact-index c.fact-item.result c.loop-fact.code (omega arith)
    ∙ c.loop-fact.invariant
