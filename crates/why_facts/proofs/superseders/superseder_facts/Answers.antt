use Rattle.std.proofs.Common.{◌∙◌, ap, arith, map, take_all}
use Rattle.report.specs.Facts.{SupersederFact}
use Rattle.why_facts.proofs.superseders.superseder_facts.Goals as goal

pub returns : goal.returns
returns c = (
  c.in_ok-ids.ids,
  c.in_ok-ids.ensures,
  c.loop-id.invariant ∙ ap (map SupersederFact)
      (take_all c.loop-id.id-index c.as_slice-id-items.result.now (omega arith) ∙ c.as_slice-id-items.ensures.items),
)
