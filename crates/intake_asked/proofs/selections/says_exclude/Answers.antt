use Rattle.std.proofs.lemmas.Result.{IfOk-weaker}
use Rattle.std.proofs.lemmas.List.{map-id}
use Rattle.intake_asked.proofs.Alike.{lent, turned}
use Rattle.intake_asked.proofs.selections.says_exclude.Goals as goal

pub returns : goal.returns
returns c =
    IfOk-weaker c.are_wanted_texts.result _ _ (λ says said t. turned (map-id _) (lent c.deref.ensures.value c.in_ok-wanted.ensures) (said t)) c.are_wanted_texts.ensures
