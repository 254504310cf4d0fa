use Rattle.std.proofs.Common.{refl}
use Rattle.std.proofs.lemmas.List.{map-id}
use Rattle.std.proofs.lemmas.Result.{IfOk-weaker}
use Rattle.intake_asked.proofs.Alike.{turned}
use Rattle.intake_asked.proofs.commands.says_single_list.Goals as goal

pub returns : goal.returns
returns c =
    IfOk-weaker c.are_wanted_texts.result _ _
    (λ are these t. (turned (map-id _) refl (these t), c.has_no_texts.ensures c.if-not-has_no_texts.false))
    c.are_wanted_texts.ensures
