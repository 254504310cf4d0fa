-- What a value tells: a line, and a command that ran.
use Rattle.std.specs.Prelude.{Bool, List, [], ◌∷◌, ◌++◌, Option, None, Some, codes, map, filter}
use Rattle.std.specs.Prelude.{option_map, option_and_then, if◌then◌else◌}
use Rattle.std.specs.Str.{bytes_eq}
use Rattle.terms.specs.Types.{Text}
use Rattle.terms.specs.Spelling.{word_text, test_text, need_text, refusal_text}
use Rattle.terms.specs.Failures.{all_tests, all_needs}
use Rattle.terms.specs.declared.kinds.Kind.{Kind}
use Rattle.terms.specs.declared.kinds.Kind.TheVariants.{Function, Ptf, Apar, Usermod}
use Rattle.terms.specs.declared.kinds.HoldKind.{HoldKind}
use Rattle.terms.specs.declared.kinds.HoldKind.TheVariants.{Error, System, User}
use Rattle.terms.specs.declared.codes.CommandWord.{CommandWord}
use Rattle.terms.specs.declared.codes.CommandWord.TheVariants as word
use Rattle.terms.specs.declared.codes.Test.{Test}
use Rattle.terms.specs.declared.codes.IdRefusal.{IdRefusal}
use Rattle.terms.specs.declared.codes.IdRefusal.TheVariants.{MakesLoop, WrongRole, NoRoom, NoHold, Internal}
use Rattle.terms.specs.declared.codes.IdRefusal.TheVariants.{AppliedSomewhere, UnknownSysmod}
use Rattle.machine.specs.Outcome.{Place, OfKind, OfHold, NotReceived, OpenNeed, Failure}
use Rattle.machine.specs.Outcome.{Status, Received, Already, RefusedId, Assigned, Unknown, Held, Replaced, Released}
use Rattle.machine.specs.Outcome.{Rejected, Applied, Accepted, Superseded, Failed, Deleted, Missing, NoVer, Restored}
use Rattle.machine.specs.Outcome.{NotApplied, Header, Line, StatusLine, NothingLine, ErrsysmodLine, Outcome, Ran}
use Rattle.machine.specs.Report.{place_text, status_word}
use Rattle.serde_json.specs.Data.{Data, null, string}
use Rattle.serde_json.specs.Find.{get, as_str}
use Rattle.smpe_json.specs.Values.{text_at, flag_at, list_at, spelled}

abbrev pub all_kinds : List Kind
all_kinds = Function ∷ Ptf ∷ Apar ∷ Usermod ∷ []

abbrev pub all_hold_kinds : List HoldKind
all_hold_kinds = Error ∷ System ∷ User ∷ []

abbrev pub all_refusals : List IdRefusal
all_refusals = MakesLoop ∷ WrongRole ∷ NoRoom ∷ NoHold ∷ Internal ∷ AppliedSomewhere ∷ UnknownSysmod ∷ []

abbrev pub all_places : List Place
all_places = map OfKind all_kinds ++ map OfHold all_hold_kinds ++ NotReceived ∷ []

abbrev pub all_words : List CommandWord
all_words =
    word.Set ∷ word.Receive ∷ word.Reject ∷ word.Apply ∷ word.Accept ∷ word.Restore ∷ word.List ∷ word.Report ∷ []

abbrev pub test_in : Data → Option Test
test_in d = option_and_then (spelled test_text all_tests) (as_str d)

abbrev pub need_in : Data → Option OpenNeed
need_in d =
    option_and_then (λ kind. option_map (λ id. record { kind = kind; id = id }) (text_at (codes "id") d))
    (option_and_then (spelled need_text all_needs) (text_at (codes "kind") d))

-- why an id failed, by its tests, needs and causers
abbrev pub failure_of : Option (List Test) → Option (List OpenNeed) → Option (List Text) → Option Failure
failure_of (Some tests) (Some needs) (Some causers) =
    Some (record { tests = tests; needs = needs; causers = causers })
failure_of _ _ _ = None

abbrev pub failure_in : Data → Option Failure
failure_in d =
    failure_of (list_at test_in (codes "tests") d) (list_at need_in (codes "needs") d)
    (list_at as_str (codes "causers") d)

-- the statuses that have this detail
abbrev pub with_detail : Option Text → List Status
with_detail None = []
with_detail (Some text) =
    Assigned text ∷ Held text ∷ Replaced text ∷ Released text
    ∷ map RefusedId (filter (λ why. bytes_eq (refusal_text why) text) all_refusals)

abbrev pub with_failure : Option Failure → List Status
with_failure None = []
with_failure (Some why) = Failed why ∷ []

-- the statuses that are a word alone
abbrev pub plain_statuses : List Status
plain_statuses =
    Received ∷ Already ∷ Unknown ∷ Rejected ∷ Applied ∷ Accepted ∷ Superseded ∷ Deleted ∷ Missing ∷ NoVer
    ∷ Restored ∷ NotApplied ∷ []

abbrev pub status_in : Data → Option Status
status_in d =
    option_and_then
    (spelled status_word
    (plain_statuses ++ with_failure (failure_in d) ++ with_detail (text_at (codes "detail") d)))
    (text_at (codes "status") d)

-- the line of an id, by its id, its place and its status
abbrev pub status_line : Option Text → Option Place → Option Status → Option Line
status_line (Some id) (Some place) (Some status) = Some (StatusLine id place status)
status_line _ _ _ = None

-- an ERRSYSMOD line, by its id, its reason and its resolvers
abbrev pub errsysmod_line : Option Text → Option Text → Option (List Text) → Option Line
errsysmod_line (Some id) (Some reason) (Some resolvers) = Some (ErrsysmodLine id reason resolvers)
errsysmod_line _ _ _ = None

-- the line of an object with this word as its status
abbrev pub line_of : Data → Text → Option Line
line_of d word =
    if bytes_eq word (codes "NOTHING") then Some NothingLine
    else (if bytes_eq word (codes "ERRSYSMOD")
    then errsysmod_line (text_at (codes "id") d) (text_at (codes "reason") d) (list_at as_str (codes "resolvers") d)
    else status_line (text_at (codes "id") d)
    (option_and_then (spelled place_text all_places) (text_at (codes "type") d)) (status_in d))

abbrev pub line_in : Data → Option Line
line_in d = option_and_then (line_of d) (text_at (codes "status") d)

-- the boundary: a text, or null
abbrev pub zone_in : Data → Option (Option Text)
zone_in null = Some None
zone_in (string zone) = Some (Some zone)
zone_in _ = None

abbrev pub header_of : Option CommandWord → Option (Option Text) → Option Bool → Option Header
header_of (Some word) (Some zone) (Some check) = Some (record { word = word; boundary = zone; check = check })
header_of _ _ _ = None

abbrev pub header_in : Data → Option Header
header_in d =
    header_of (option_and_then (spelled word_text all_words) (text_at (codes "command") d))
    (option_and_then zone_in (get (codes "zone") d)) (flag_at (codes "check") d)

abbrev pub ran_of : Option Header → Option (List Line) → Option Outcome
ran_of (Some header) (Some lines) = Some (Ran header lines)
ran_of _ _ = None

abbrev pub command_in : Data → Option Outcome
command_in d = ran_of (header_in d) (list_at line_in (codes "lines") d)

-- the commands of a document
abbrev pub commands_in : Data → Option (List Outcome)
commands_in d = list_at command_in (codes "commands") d
