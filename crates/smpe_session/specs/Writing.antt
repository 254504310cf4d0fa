-- Commands that ran, and what their reports tell of their changes. What is refused has written nothing.
use Rattle.std.specs.Prelude.{◌≡◌, Option, Some}
use Rattle.terms.specs.Types.{Text, Command, Set, ListZone}
use Rattle.machine.specs.Outcome as machine
use Rattle.machine.specs.Outcome.{Header, Ran, Refused, header_of}
use Rattle.machine.specs.State.{global_name}
use Rattle.report.specs.declared.outcome.Outcome.{Outcome}
use Rattle.report.specs.Views.{outcome_view}
use Rattle.store.specs.declared.change.Change.{Change}
use Rattle.store.specs.declared.change.Change.TheVariants.{Zone, Global}
use Rattle.smpe_session.specs.declared.session.Performed.{Performed}
use Rattle.smpe_session.specs.declared.session.Performed.TheVariants.{Told, Lists}

-- The zone that changes is the boundary, which the header names.
abbrev pub IsAtBoundary : Change → Header → Type 0
IsAtBoundary (Zone name delta) header = header.boundary ≡ Some name
IsAtBoundary (Global stated edits) header = header.boundary ≡ Some global_name
IsAtBoundary _ header = ⊥

-- an outcome with lines, and not a refusal, of a command that made the change
abbrev pub IsRan : Change → machine.Outcome → Type 0
IsRan change (Ran header lines) = IsAtBoundary change header
IsRan change _ = ⊥

-- the same as it is told
abbrev pub TellsRun : Change → Outcome → Type 0
TellsRun change outcome = IsRan change (outcome_view outcome)

-- A LIST has no outcome yet.
abbrev pub AnswersRun : Change → Performed → Type 0
AnswersRun change (Told outcome) = TellsRun change outcome
AnswersRun change (Lists text) = ⊥

-- The outcome is one of this command, under this boundary: its header says so.
abbrev pub IsOutcomeOf : Command → Option Text → machine.Outcome → Type 0
IsOutcomeOf c boundary (Ran header lines) = header ≡ header_of c boundary
IsOutcomeOf c boundary (Refused header why) = header ≡ header_of c boundary
IsOutcomeOf c boundary _ = ⊥

-- the same as it is told
abbrev pub TellsOutcomeOf : Command → Option Text → Outcome → Type 0
TellsOutcomeOf c boundary outcome = IsOutcomeOf c boundary (outcome_view outcome)

-- The boundary after a command with this outcome. Only a SET that ran moves it, to the zone that it names.
abbrev pub boundary_after : Command → machine.Outcome → Option Text → Option Text
boundary_after (Set zone) (Ran header lines) boundary = Some zone
boundary_after _ _ boundary = boundary

-- The command answered so under the first boundary, and left the second.
abbrev pub AnswersAt : Command → Option Text → Option Text → Outcome → Type 0
AnswersAt c old new outcome =
    TellsOutcomeOf c old outcome × (new ≡ boundary_after c (outcome_view outcome) old)

-- A LIST has no outcome yet.
abbrev pub AnswersOf : Command → Option Text → Option Text → Performed → Type 0
AnswersOf c old new (Told outcome) = AnswersAt c old new outcome
AnswersOf c old new (Lists text) = (c ≡ ListZone text) × (new ≡ old)
