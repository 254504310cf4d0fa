-- What the code's outcomes stand for.
use Rattle.std.specs.Prelude.{List, ℕ, codes, map}
use Rattle.terms.specs.declared.kinds.ZoneKind.{ZoneKind}
use Rattle.terms.specs.declared.kinds.ZoneKind.TheVariants.{Target, Distribution}
use Rattle.machine.specs.Outcome as machine
use Rattle.judge_system.specs.Views.{failure_view}
use Rattle.report.specs.declared.outcome.Header.{Header}
use Rattle.report.specs.declared.outcome.Refusal.{Refusal}
use Rattle.report.specs.declared.outcome.Refusal.TheVariants as refusal
use Rattle.report.specs.declared.outcome.Place.{Place}
use Rattle.report.specs.declared.outcome.Place.TheVariants as place
use Rattle.report.specs.declared.outcome.Status.{Status}
use Rattle.report.specs.declared.outcome.Status.TheVariants as status
use Rattle.report.specs.declared.outcome.ReportLine.{ReportLine}
use Rattle.report.specs.declared.outcome.ReportLine.TheVariants as line
use Rattle.report.specs.declared.outcome.Outcome.{Outcome}
use Rattle.report.specs.declared.outcome.Outcome.TheVariants as outcome

abbrev pub header_view : Header → machine.Header
header_view h = record { word = h.word; boundary = h.boundary; check = h.check }

abbrev pub refusal_view : Refusal → machine.Refusal
refusal_view refusal.NoBoundary = machine.NoBoundary
refusal_view refusal.NoZone = machine.NoZone
refusal_view refusal.WrongKind = machine.WrongKind
refusal_view (refusal.BadPtfin number code) = machine.BadPtfin number code
refusal_view (refusal.BadHoldFile number code) = machine.BadHoldFile number code

abbrev pub place_view : Place → machine.Place
place_view (place.Kind kind) = machine.OfKind kind
place_view (place.Hold kind) = machine.OfHold kind
place_view place.NotReceived = machine.NotReceived

abbrev pub status_view : Status → machine.Status
status_view status.Received = machine.Received
status_view status.Already = machine.Already
status_view (status.Refused why) = machine.RefusedId why
status_view (status.Assigned source) = machine.Assigned source
status_view status.Unknown = machine.Unknown
status_view (status.Held reason) = machine.Held reason
status_view (status.Replaced reason) = machine.Replaced reason
status_view (status.Released reason) = machine.Released reason
status_view status.Rejected = machine.Rejected
status_view status.Applied = machine.Applied
status_view status.Accepted = machine.Accepted
status_view status.Superseded = machine.Superseded
status_view (status.Failed why) = machine.Failed (failure_view why)
status_view status.Deleted = machine.Deleted
status_view status.Missing = machine.Missing
status_view status.NoVer = machine.NoVer
status_view status.Restored = machine.Restored
status_view status.NotApplied = machine.NotApplied

abbrev pub line_view : ReportLine → machine.Line
line_view (line.Status id place status) = machine.StatusLine id (place_view place) (status_view status)
line_view line.Nothing = machine.NothingLine
line_view (line.Errsysmod id reason resolvers) = machine.ErrsysmodLine id reason resolvers.items

abbrev pub outcome_view : Outcome → machine.Outcome
outcome_view (outcome.Ran header lines) = machine.Ran (header_view header) (map line_view lines.items)
outcome_view (outcome.ListedGlobal header global) = machine.Ran (header_view header) (machine.list_global global.now)
outcome_view (outcome.Listed header zone text) = machine.Ran (header_view header) (machine.list_zone text zone.now)
outcome_view (outcome.Refused header why) = machine.Refused (header_view header) (refusal_view why)
outcome_view (outcome.Control number code) = machine.Control (record { number = number; code = code })

-- the word before the date of an applied entry
abbrev pub applied_word : ZoneKind → List ℕ
applied_word Target = codes "APPLIED"
applied_word Distribution = codes "ACCEPTED"
