use Rattle.std.proofs.Common.{◌≡◌, List, map, take}
use Rattle.terms.specs.Types.{Id}
use Rattle.machine.specs.Outcome as machine
use Rattle.report.specs.Views.{line_view}
use Rattle.report.specs.ErrsysmodLines.{AreResolvers}
use Rattle.report.proofs.held_for_error.errsysmod_lines.Given as goal

abbrev pub invariant-loop-error : goal.invariant-loop-error
invariant-loop-error l =
    (resolvers : Id → List Id) → ((reason : Id) → AreResolvers l.fn.global l.fn.zone reason (resolvers reason))
    → map line_view l.lines.items ≡ map (λ o. machine.ErrsysmodLine o.id o.reason (resolvers o.reason))
    (take l.error-index l.errors)
