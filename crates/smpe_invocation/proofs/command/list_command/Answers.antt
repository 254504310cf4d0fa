use Rattle.std.proofs.lemmas.Result.{IfOk-weaker}
use Rattle.smpe_invocation.proofs.Shapes.{one_more}
use Rattle.smpe_invocation.proofs.command.list_command.Goals as goal

pub returns : goal.returns
returns c =
    IfOk-weaker c.arg.result _ _
    (λ new added. one_more _ _ _ _ _ _ c.in_ok-database_command.ensures added
    c.required_arg.ensures.rule c.required_arg.ensures.global)
    c.arg.ensures
