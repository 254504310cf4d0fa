use Rattle.std.proofs.Common.{refl, map, subst}
use Rattle.report.specs.ErrsysmodLines.{AreLinesOf}
use Rattle.report.specs.Views.{line_view}
use Rattle.report.proofs.ReportedErrors.{are_errsysmods}
use Rattle.report.proofs.held_for_error.errsysmods.Goals as goal

pub returns : goal.returns
returns c = record {
  lines = map line_view c.in_ok-lines.lines.items;
  outcome_is = refl;
  lines_are =
      are_errsysmods c.args.global.now c.args.zone.now c.attest.ensures c.in_ok-errors.errors.items
      c.in_ok-lines.lines.items c.in_ok-errors.ensures
      (subst (λ l. AreLinesOf c.args.global.now c.args.zone.now l c.in_ok-lines.lines.items) c.deref.ensures.value
      c.in_ok-lines.ensures);
}
