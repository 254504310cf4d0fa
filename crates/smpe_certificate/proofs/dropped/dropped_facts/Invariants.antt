use Rattle.std.proofs.Common.{map, take}
use Rattle.terms.specs.Beside.{Beside}
use Rattle.smpe_certificate.specs.Views.{dropped_view}
use Rattle.smpe_certificate.specs.ByNumber.{IsFactOf}
use Rattle.smpe_certificate.proofs.dropped.dropped_facts.Given as goal

abbrev pub invariant-loop-i : goal.invariant-loop-i
invariant-loop-i l = Beside (λ n d f. IsFactOf l.judged d f) (take l.i l.dropped) (map dropped_view l.facts.items)
