use Rattle.std.proofs.lemmas.Result.{IfOk-weaker}
use Rattle.smpe_invocation.proofs.Shapes.{one_more}
use Rattle.smpe_invocation.proofs.command.system_command.Goals as goal

pub returns : goal.returns
returns c =
    let at1 = one_more _ _ _ _ _ _ c.new_command.ensures c.in_ok-arg.ensures
    c.optional_arg.ensures.rule c.optional_arg.ensures.global in
    let at2 = one_more _ _ _ _ _ _ at1 c.in_ok-arg-2.ensures
    c.optional_arg-2.ensures.rule c.optional_arg-2.ensures.global in
    let at3 = one_more _ _ _ _ _ _ at2 c.in_ok-arg-3.ensures c.wait_arg.ensures.rule c.wait_arg.ensures.global in
    IfOk-weaker c.arg-4.result _ _
    (λ new added. one_more _ _ _ _ _ _ at3 added
    c.optional_arg-3.ensures.rule c.optional_arg-3.ensures.global)
    c.arg-4.ensures
