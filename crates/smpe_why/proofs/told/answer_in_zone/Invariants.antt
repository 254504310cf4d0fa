use Rattle.std.proofs.Common.{[], ◌∷◌, take}
use Rattle.std.specs.Prelude.{option_copied}
use Rattle.smpe_why.specs.Telling.{AreToldBy}
use Rattle.smpe_why.proofs.Parts.{AreTold}
use Rattle.smpe_why.proofs.told.answer_in_zone.Given as goal

abbrev pub invariant-loop-id : goal.invariant-loop-id
invariant-loop-id l =
    AreTold (λ x text code. AreToldBy l.lookups.global.now l.lookups.zone.now (option_copied l.related) l.question
    (x ∷ []) text code) (take l.id-index l.ids) l.answer.text.items l.answer.status
