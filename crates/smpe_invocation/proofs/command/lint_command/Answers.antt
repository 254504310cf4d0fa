use Rattle.std.proofs.lemmas.Result.{IfOk-weaker}
use Rattle.smpe_invocation.proofs.Shapes.{one_more}
use Rattle.smpe_invocation.proofs.command.lint_command.Goals as goal

pub returns : goal.returns
returns c =
    let at1 = one_more _ _ _ _ _ _ c.new_command.ensures c.in_ok-arg.ensures
    c.required_arg.ensures.rule c.required_arg.ensures.global in
    let at2 = one_more _ _ _ _ _ _ at1 c.in_ok-arg-2.ensures c.form_arg.ensures.rule.2 c.form_arg.ensures.global in
    IfOk-weaker c.arg-3.result _ _
    (λ new added. (
      c.form_arg.ensures.rule.0,
      c.form_arg.ensures.rule.1,
      one_more _ _ _ _ _ _ at2 added c.required_file_arg.ensures.rule c.required_file_arg.ensures.global,
    ))
    c.arg-3.ensures
