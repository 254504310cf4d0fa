-- The lines of REPORT ERRSYSMODS.
use Rattle.std.specs.Prelude.{◌≡◌, ◌↔◌, List, Contains, Some, false, map}
use Rattle.terms.specs.declared.codes.CommandWord.TheVariants.{Report}
use Rattle.terms.specs.Types.{Text, Id, Global, Zone}
use Rattle.terms.specs.Lookups.{IsRising}
use Rattle.machine.specs.Outcome as machine
use Rattle.machine.specs.Errsysmods.{AreErrsysmods, Resolves}
use Rattle.report.specs.declared.outcome.Outcome.{Outcome}
use Rattle.report.specs.declared.outcome.ReportLine.{ReportLine}
use Rattle.report.specs.Views.{line_view, outcome_view}
use Rattle.report.specs.declared.error_holds.OpenErrorHold.{OpenErrorHold}

-- the ids rise, and are those that resolve the reason
abbrev pub AreResolvers : Global → Zone → Id → List Id → Type 0
AreResolvers g zone reason ids = IsRising ids × ((y : Id) → Contains ids y ↔ Resolves g zone reason y)

-- a line for each hold
abbrev pub AreLinesOf : Global → Zone → List OpenErrorHold → List ReportLine → Type 0
AreLinesOf g zone errors lines =
    (resolvers : Id → List Id) → ((reason : Id) → AreResolvers g zone reason (resolvers reason))
    → map line_view lines ≡ map (λ o. machine.ErrsysmodLine o.id o.reason (resolvers o.reason)) errors

-- REPORT ERRSYSMODS of the zone of this name
pub record IsReportOf (name : Text) (g : Global) (zone : Zone) (o : Outcome) : Type 0 where
  pub lines : List machine.Line
  pub outcome_is : outcome_view o ≡ machine.Ran (record { word = Report; boundary = Some name; check = false }) lines
  pub lines_are : AreErrsysmods g zone lines
