use Rattle.solve.proofs.Choosing.{AreFlagged}
use Rattle.smpe_certificate.proofs.kept.kept_ids.Given as goal

abbrev pub invariant-loop-i : goal.invariant-loop-i
invariant-loop-i l = AreFlagged l.ids l.flags l.i l.kept.items
