use Rattle.std.proofs.Common.{take, map}
use Rattle.report.specs.Views.{line_view}
use Rattle.report.specs.Facts.{among}
use Rattle.smpe_why.specs.Telling.{IsToldOf}
use Rattle.smpe_why.proofs.Parts.{AreTold}
use Rattle.smpe_why.proofs.told.describe_ids.Given as goal

abbrev pub invariant-loop-id : goal.invariant-loop-id
invariant-loop-id l =
    AreTold (λ x text code. IsToldOf
    (among l.lookups.global.now l.lookups.zone.now l.scope.ids.now l.scope.bypass.now x) (map line_view l.lines) x text
    code) (take l.id-index l.ids) l.answer.text.items l.answer.status
