use Rattle.smpe_certificate.proofs.Indexing.{AreServedBelow}
use Rattle.smpe_certificate.proofs.serving.served_needs.Given as goal

abbrev pub invariant-loop-place : goal.invariant-loop-place
invariant-loop-place l = AreServedBelow l.system l.place l.rows.items
