use Rattle.std.proofs.Common.{length}
use Rattle.smpe_mend.proofs.running.+lines_with_orders.Given as goal

abbrev pub decreases-lines_with_orders : goal.decreases-lines_with_orders
decreases-lines_with_orders l = length l.ordered.now
