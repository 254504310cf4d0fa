use Rattle.std.proofs.Common.{◌∷◌, [], take}
use Rattle.std.specs.Prelude.{codes}
use Rattle.std.specs.List.{flat_map}
use Rattle.terms.specs.Spelling.{need_text}
use Rattle.machine.specs.Report.{detail_line}
use Rattle.report.specs.Paged.{Paged}
use Rattle.report.proofs.lines.print_failure.Given as goal

abbrev pub invariant-loop-need : goal.invariant-loop-need
invariant-loop-need g l =
    Paged g.W.Sink l.initial.page l.page
    (flat_map (λ n. detail_line (codes "NEED" ∷ need_text n.kind ∷ n.id ∷ [])) (take l.need-index l.need-items))

abbrev pub invariant-loop-causer : goal.invariant-loop-causer
invariant-loop-causer g l =
    Paged g.W.Sink l.initial.page l.page
    (flat_map (λ id. detail_line (codes "CAUSER" ∷ id ∷ [])) (take l.causer-index l.causer-items))
