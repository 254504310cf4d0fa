use Rattle.std.proofs.Common.{◌∙◌, List, ap}
use Rattle.std.proofs.lemmas.Result.{IfOk-weaker}
use Rattle.std.proofs.lemmas.List.{map-id}
use Rattle.terms.specs.Types.{Text}
use Rattle.intake_asked.specs.Words.{listed}
use Rattle.intake_asked.proofs.Alike.{lent, turned}
use Rattle.intake_asked.proofs.commands.says_rejected_ids.Goals as goal

pub returns : goal.returns
returns c =
    IfOk-weaker c.are_wanted_texts.result _ _ (λ says said t. turned (map-id _) (lent c.deref.ensures.value (c.in_ok-wanted.ensures
    ∙ ap (λ (names : List Text). listed names c.args.operands.now) c.select_names.ensures)) (said t)) c.are_wanted_texts.ensures
