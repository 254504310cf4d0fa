use Rattle.std.proofs.lemmas.Result.{IfOk-weaker}
use Rattle.smpe_invocation.proofs.Shapes.{one_more}
use Rattle.smpe_invocation.proofs.command.mend_command.Goals as goal

pub returns : goal.returns
returns c =
    let at1 = one_more _ _ _ _ _ _ c.in_ok-system_command.ensures c.in_ok-arg.ensures
    c.required_repeatable_arg.ensures.rule c.required_repeatable_arg.ensures.global in
    IfOk-weaker c.arg-2.result _ _
    (λ new added. one_more _ _ _ _ _ _ at1 added
    c.required_file_arg.ensures.rule c.required_file_arg.ensures.global)
    c.arg-2.ensures
