use Rattle.std.proofs.Common.{length}
use Rattle.smpe_mend.proofs.leaving_out.+leave_out_single.Given as goal

abbrev pub decreases-leave_out_single : goal.decreases-leave_out_single
decreases-leave_out_single l = length l.tried.actions.items
