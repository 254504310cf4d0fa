use Rattle.std.proofs.Common.{◌∙◌, sym}
use Rattle.std.proofs.lemmas.Result.{IfOk-weaker}
use Rattle.sysmods.specs.Choices.{choice}
use Rattle.report.proofs.Superseding.{serves_above}
use Rattle.report.proofs.superseders.serving_ids.Goals as goal

pub returns-then-takes_superseder : goal.returns-then-takes_superseder
returns-then-takes_superseder c =
    IfOk-weaker c.id_and_superseders.result _ _
    (λ ids are. serves_above (choice c.args.vers.now) c.args.kind c.args.id ids.items
    (sym c.takes_superseder.ensures ∙ c.if-takes_superseder.true) are) c.id_and_superseders.ensures
