use Rattle.smpe_certificate.specs.ByNumber.{AreIneligible}
use Rattle.smpe_certificate.proofs.ineligible.ineligible_facts.Given as goal

abbrev pub invariant-loop-i : goal.invariant-loop-i
invariant-loop-i l = AreIneligible l.ids l.tests l.i l.facts.items
