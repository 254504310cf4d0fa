use Rattle.std.proofs.Common.{◌∷◌, [], take}
use Rattle.std.specs.Prelude.{codes}
use Rattle.std.specs.List.{flat_map}
use Rattle.machine.specs.Report.{detail_line}
use Rattle.report.specs.Paged.{Paged}
use Rattle.report.proofs.lines.print_errsysmod.Given as goal

abbrev pub invariant-loop-resolver : goal.invariant-loop-resolver
invariant-loop-resolver g l =
    Paged g.W.Sink l.initial.page l.page
    (flat_map (λ id. detail_line (codes "RESOLVER" ∷ id ∷ [])) (take l.resolver-index l.resolvers))
