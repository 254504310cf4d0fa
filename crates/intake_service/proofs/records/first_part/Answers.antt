use Rattle.std.proofs.Common.{◌++◌, ap₂, ◌∙◌, take-append-drop}
use Rattle.intake_service.proofs.records.first_part.Goals as goal

pub returns-in-Some : goal.returns-in-Some
returns-in-Some c =
    let split = c.in-Some.ensures.cases in
    ap₂ (λ a b. a ++ b) split.1 split.2 ∙ take-append-drop 512 c.args.items.now
