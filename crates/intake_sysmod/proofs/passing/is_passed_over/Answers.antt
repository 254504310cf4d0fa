use Rattle.std.proofs.lemmas.Result.{IfOk-weaker}
use Rattle.intake_sysmod.proofs.passing.is_passed_over.Goals as goal

pub returns : goal.returns
returns c =
    IfOk-weaker c.has_no_other_user.result _ _ (λ passed found t.
    let may = c.may_pass_over.ensures c.if-not-may_pass_over.false in
    record { asked = may.0; many = may.1; lacks_nothing = (found t).0; alone = (found t).1 }) c.has_no_other_user.ensures
