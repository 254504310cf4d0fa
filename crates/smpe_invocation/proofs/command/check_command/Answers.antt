use Rattle.std.proofs.lemmas.Result.{IfOk-weaker}
use Rattle.smpe_invocation.proofs.Shapes.{one_more}
use Rattle.smpe_invocation.proofs.command.check_command.Goals as goal

pub returns : goal.returns
returns c =
    let at1 = one_more _ _ _ _ _ _ c.in_ok-service_set_command.ensures c.in_ok-arg.ensures
    c.flag_arg.ensures.rule c.flag_arg.ensures.global in
    let at2 = one_more _ _ _ _ _ _ at1 c.in_ok-arg-2.ensures
    c.flag_arg-2.ensures.rule c.flag_arg-2.ensures.global in
    let at3 = one_more _ _ _ _ _ _ at2 c.in_ok-arg-3.ensures
    c.optional_arg.ensures.rule c.optional_arg.ensures.global in
    IfOk-weaker c.arg-4.result _ _
    (λ new added. one_more _ _ _ _ _ _ at3 added c.file_arg.ensures.rule c.file_arg.ensures.global)
    c.arg-4.ensures
