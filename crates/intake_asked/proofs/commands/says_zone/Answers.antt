use Rattle.std.proofs.Common.{◌∷◌, [], subst}
use Rattle.std.proofs.lemmas.Result.{IfOk-weaker}
use Rattle.intake_asked.specs.Said.{AreThese}
use Rattle.intake_asked.proofs.Alike.{lent}
use Rattle.intake_asked.proofs.commands.says_zone.Goals as goal

pub returns : goal.returns
returns c =
    IfOk-weaker c.is_only_wanted_text.result _ _ (λ says said t. subst (AreThese (c.args.zone ∷ [])) (lent c.deref.ensures.value c.in_ok-wanted.ensures) (said t)) c.is_only_wanted_text.ensures
