use Rattle.std.proofs.lemmas.Result.{IfOk-weaker}
use Rattle.intake_asked.proofs.commands.says_restore.Goals as goal

pub returns : goal.returns
returns c =
    IfOk-weaker c.says_restore_list.result _ _ (λ says said t. (said t, c.says_check.ensures c.if-not-says_check.false)) c.says_restore_list.ensures
