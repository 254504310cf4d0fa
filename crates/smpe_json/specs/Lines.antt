-- The lines of a report as values.
use Rattle.std.specs.Prelude.{List, [], ◌∷◌, Option, None, Some, codes}
use Rattle.terms.specs.Types.{Text}
use Rattle.terms.specs.Spelling.{word_text, test_text, need_text, refusal_text}
use Rattle.terms.specs.declared.codes.Test.{Test}
use Rattle.machine.specs.Outcome.{OpenNeed, Failure, Status, RefusedId, Assigned, Held, Replaced, Released, Failed}
use Rattle.machine.specs.Outcome.{Header, Line, StatusLine, NothingLine, ErrsysmodLine, lines_code}
use Rattle.machine.specs.Report.{place_text, status_word}
use Rattle.serde_json.specs.Data.{Data, null, boolean, string}
use Rattle.smpe_json.specs.Values.{object_of, array_of, number_of}

abbrev pub test_value : Test → Data
test_value test = string (test_text test)

abbrev pub need_value : OpenNeed → Data
need_value need = object_of ((codes "kind", string (need_text need.kind)) ∷ (codes "id", string need.id) ∷ [])

abbrev pub failure_members : Failure → List (Text × Data)
failure_members f =
    (codes "tests", array_of test_value f.tests) ∷ (codes "needs", array_of need_value f.needs)
    ∷ (codes "causers", array_of string f.causers) ∷ []

abbrev pub detail_member : Text → List (Text × Data)
detail_member detail = (codes "detail", string detail) ∷ []

-- what belongs to a status: why the id failed, or a detail
abbrev pub detail_members : Status → List (Text × Data)
detail_members (RefusedId why) = detail_member (refusal_text why)
detail_members (Assigned source) = detail_member source
detail_members (Held reason) = detail_member reason
detail_members (Replaced reason) = detail_member reason
detail_members (Released reason) = detail_member reason
detail_members (Failed why) = failure_members why
detail_members _ = []

-- A line of a command other than LIST, whose lines have no value. The type is that of the SYSMOD, the kind of the hold,
-- or `-`.
abbrev pub line_value : Line → Data
line_value (StatusLine id place status) =
    object_of ((codes "id", string id) ∷ (codes "type", string (place_text place))
    ∷ (codes "status", string (status_word status)) ∷ detail_members status)
line_value NothingLine = object_of ((codes "status", string (codes "NOTHING")) ∷ [])
line_value (ErrsysmodLine id reason resolvers) =
    object_of ((codes "status", string (codes "ERRSYSMOD")) ∷ (codes "id", string id)
    ∷ (codes "reason", string reason) ∷ (codes "resolvers", array_of string resolvers) ∷ [])
line_value _ = null

abbrev pub zone_value : Option Text → Data
zone_value None = null
zone_value (Some zone) = string zone

-- a command that ran, with its boundary, its return code and its lines
abbrev pub command_value : Header → List Line → Data
command_value h lines =
    object_of ((codes "command", string (word_text h.word)) ∷ (codes "zone", zone_value h.boundary)
    ∷ (codes "check", boolean h.check) ∷ (codes "rc", number_of (lines_code lines))
    ∷ (codes "lines", array_of line_value lines) ∷ [])
