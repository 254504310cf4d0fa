use Rattle.std.proofs.Common.{◌∙◌, sym}
use Rattle.std.proofs.lemmas.Result.{IfOk-weaker}
use Rattle.std.proofs.lemmas.List.{map-id}
use Rattle.intake_asked.proofs.Alike.{lent, turned}
use Rattle.intake_asked.proofs.bypasses.says_these_reasons.Goals as goal

pub returns : goal.returns
returns c =
    IfOk-weaker c.are_wanted_texts.result _ _ (λ says said t. (
      sym c.has_operand.ensures ∙ c.if-not-has_operand.false,
      sym c.has_operand_without_list.ensures ∙ c.if-has_operand_without_list.false,
      turned (map-id _) (lent c.deref.ensures.value c.in_ok-wanted.ensures) (said t),
    )) c.are_wanted_texts.ensures
