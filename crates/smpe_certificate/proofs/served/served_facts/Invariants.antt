use Rattle.smpe_certificate.specs.ByNumber.{AreServedFacts}
use Rattle.smpe_certificate.proofs.served.served_facts.Given as goal

abbrev pub invariant-loop-place : goal.invariant-loop-place
invariant-loop-place l = AreServedFacts l.judged l.kept l.place l.facts.items
