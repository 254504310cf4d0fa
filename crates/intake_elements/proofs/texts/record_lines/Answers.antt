use Rattle.intake_elements.proofs.TextLemmas.{records_more}
use Rattle.intake_elements.proofs.texts.record_lines.Goals as goal

pub loop-card-preserved : goal.loop-card-preserved
loop-card-preserved c =
    records_more c.args.cards.now c.loop-card.lines.items c.push.new.self.items c.loop-card.card-index _
    c.record_of-line.result c.loop-card-test.true c.in_ok-push.ensures.items
    (c.is_record_of.ensures c.if-not-is_record_of.false) c.loop-card.invariant
