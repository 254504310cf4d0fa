use Rattle.std.proofs.Common.{IfOk, subst}
use Rattle.smpe_mend.specs.Runs.{asked_of}
use Rattle.smpe_mend.specs.Mends.{IsMinimal}
use Rattle.smpe_mend.proofs.leaving_out.+leave_out_single.Goals as goal

pub returns-clause-minimal : goal.returns-clause-minimal
returns-clause-minimal t c =
    subst (λ g. IfOk c.leave_out_single.result (λ left. IsMinimal g (asked_of c.args.broken.now) left.actions.items))
    c.in_ok-left.ensures.back c.leave_out_single.ensures.minimal
