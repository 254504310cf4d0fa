use Rattle.smpe_certificate.proofs.Collecting.{served_add}
use Rattle.smpe_certificate.proofs.served.served_facts.Goals as goal

pub loop-place-preserved : goal.loop-place-preserved
loop-place-preserved c =
    served_add c.args.judged.now c.args.kept.now c.loop-place.place c.in-Some.fact c.loop-place.facts.items
    c.push.new.self.items (rw c.in-Some.is at c.served_fact.ensures.some) c.in_ok-push.ensures.items
    c.loop-place.invariant
