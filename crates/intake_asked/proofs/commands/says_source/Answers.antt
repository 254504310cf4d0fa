use Rattle.std.proofs.Common.{◌∷◌, [], subst, sym}
use Rattle.std.specs.Prelude.{codes}
use Rattle.std.proofs.lemmas.Result.{IfOk-weaker}
use Rattle.intake_asked.specs.Said.{AreThese, one_of}
use Rattle.intake_asked.specs.Words.{listed}
use Rattle.intake_asked.proofs.Alike.{lent}
use Rattle.intake_asked.proofs.commands.says_source.Goals as goal

pub returns : goal.returns
returns c =
    IfOk-weaker c.is_only_wanted_text.result _ _ (λ says said t. subst (λ o. AreThese (one_of o) (listed (codes "SOURCEID" ∷ []) c.args.operands.now)) (sym c.in-Some.is)
    (subst (AreThese (c.in-Some.source ∷ [])) (lent c.deref-2.ensures.value c.in_ok-wanted.ensures)
    (said t))) c.is_only_wanted_text.ensures
