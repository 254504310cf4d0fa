use Rattle.std.proofs.Common.{◌++◌, ◌∙◌, ap, arith, take_all}
use Rattle.std.specs.List.{flat_map}
use Rattle.smpe_certificate.specs.Text.{ineligible_line}
use Rattle.report.proofs.Texts.{flat_more}
use Rattle.smpe_certificate.proofs.text.append_all_ineligible.Goals as goal

pub loop-fact-preserved : goal.loop-fact-preserved
loop-fact-preserved c =
    flat_more ineligible_line c.args.facts.now c.loop-fact.fact-index c.fact-item.result
    c.args.text.now.items c.loop-fact.text.items c.append_ineligible.new.text.items (omega arith) c.fact-item.is
    c.loop-fact.invariant
    c.in_ok-append_ineligible.ensures

pub returns : goal.returns
returns c =
    c.loop-fact.invariant
    ∙ ap (λ l. c.args.text.now.items ++ flat_map ineligible_line l)
    (take_all c.loop-fact.fact-index c.args.facts.now (omega arith))
