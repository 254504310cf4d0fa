-- The values of the options, as clap's matches have them.
use Rattle.std.specs.Prelude.{◌≡◌, ◌≢◌, ◌↔◌, ◌≤◌, ℕ, All, IsTrue, Bool, List, [], Option, Some, None, codes, map}
use Rattle.std.specs.Prelude.{option_map, IfSome}
use Rattle.std.specs.Str.Parse.{IsNumeral, digits_value, without_leading_plus}
use Rattle.std.specs.String.{string_bytes}
use Rattle.terms.specs.Types.{Text}
use Rattle.terms.specs.Forms.{IsId, IsZoneName, IsSrel}
use Rattle.terms.specs.Spelling.{zone_kind_text}
use Rattle.terms.specs.declared.kinds.ZoneKind.{ZoneKind}
use Rattle.clap.specs.Words.{Row, all_of, first_of}
use Rattle.smpe_invocation.specs.Dates.{HasDateForm, IsCalendarDay, dotted}
use Rattle.smpe_invocation.specs.declared.asked.CheckAnswer.{CheckAnswer}
use Rattle.smpe_invocation.specs.declared.asked.CheckForm.{CheckForm}
use Rattle.smpe_invocation.specs.declared.asked.CheckForm.TheVariants as check_form
use Rattle.smpe_invocation.specs.declared.asked.CheckedSystem.{CheckedSystem}
use Rattle.smpe_invocation.specs.declared.asked.CheckedSystem.TheVariants.{Empty, Copied}
use Rattle.smpe_invocation.specs.declared.asked.CommandJob.{CommandJob}
use Rattle.smpe_invocation.specs.declared.asked.DatabaseFile.{DatabaseFile}
use Rattle.smpe_invocation.specs.declared.asked.Invocation.{Invocation}
use Rattle.smpe_invocation.specs.declared.asked.Invocation.TheVariants as asked
use Rattle.smpe_invocation.specs.declared.asked.LintForm.{LintForm}
use Rattle.smpe_invocation.specs.declared.asked.LintForm.TheVariants as lint_form
use Rattle.smpe_invocation.specs.declared.asked.ServiceSet.{ServiceSet}
use Rattle.smpe_invocation.specs.declared.asked.SetFiles.{SetFiles}
use Rattle.smpe_invocation.specs.declared.asked.SetFiles.TheVariants.{Records, AsTheyCome}
use Rattle.smpe_invocation.specs.declared.asked.SystemCopy.{SystemCopy}

abbrev pub HasText : Text → List Row → Text → Type 0
HasText id rows text = first_of id rows ≡ Some text

abbrev pub HasZoneName : Text → List Row → Text → Type 0
HasZoneName id rows name = HasText id rows name × IsZoneName name

abbrev pub HasKind : List Row → ZoneKind → Type 0
HasKind rows kind = HasText (codes "kind") rows (zone_kind_text kind)

abbrev pub HasSrel : List Row → Text → Type 0
HasSrel rows srel = HasText (codes "srel") rows srel × IsSrel srel

-- the related zone, if the words have one
abbrev pub HasRelated : List Row → Option Text → Type 0
HasRelated rows related = (first_of (codes "related") rows ≡ related) × IfSome related IsZoneName

-- the text is a day of the calendar, and this is that day as `yy.ddd`
abbrev pub HasDate : List Row → Text → Type 0
HasDate rows date = (text : Text) × HasText (codes "date") rows text × HasDateForm text × IsCalendarDay text
    × (date ≡ dotted text)

-- the words do not have the option
abbrev pub Lacks : Text → List Row → Type 0
Lacks id rows = first_of id rows ≡ None

-- the text of an option that may be left out
abbrev pub HasOptional : Text → List Row → Option Text → Type 0
HasOptional id rows text = first_of id rows ≡ text

-- the words have a flag or not
abbrev pub HasFlag : Text → List Row → Bool → Type 0
HasFlag id rows given = IsTrue given ↔ HasText id rows (codes "true")

-- a whole number of seconds, at most 9,999
abbrev pub AreSeconds : Text → ℕ → Type 0
AreSeconds text seconds = IsNumeral 10 (without_leading_plus text)
    × (seconds ≡ digits_value 10 (without_leading_plus text)) × (seconds ≤ 9_999)

-- the seconds to wait; none, if the words do not say how many
abbrev pub IsWait : Option Text → ℕ → Type 0
IsWait None seconds = seconds ≡ 0
IsWait (Some text) seconds = AreSeconds text seconds

abbrev pub HasDatabase : List Row → DatabaseFile → Type 0
HasDatabase rows db = HasText (codes "db") rows (string_bytes db.name) × IsWait (first_of (codes "wait") rows) db.wait

-- the values of `--id`, in their order
abbrev pub HasIds : List Row → List Text → Type 0
HasIds rows ids = (all_of (codes "id") rows ≡ Some ids) × All IsId ids

-- the values of an option that may be repeated or left out, in their order
abbrev pub AreIds : Option (List Text) → List Text → Type 0
AreIds None ids = ids ≡ []
AreIds (Some texts) ids = (ids ≡ texts) × All IsId ids

-- the names of files that are not values of options: at least one, in their order
abbrev pub HasFiles : List Row → List Text → Type 0
HasFiles rows files = (all_of (codes "file") rows ≡ Some files) × (files ≢ [])

abbrev pub form_text : LintForm → Text
form_text lint_form.Text = codes "text"
form_text lint_form.Json = codes "json"

-- the form of the answer of `lint`; a text, if the words do not say which
abbrev pub IsForm : Option Text → LintForm → Type 0
IsForm None form = form ≡ lint_form.Text
IsForm (Some text) form = text ≡ form_text form

-- The commands, if the words have a file of them; then they have a date.
abbrev pub HasCommands : List Row → Option CommandJob → Type 0
HasCommands rows None = Lacks (codes "cntl") rows
HasCommands rows (Some commands) =
    HasText (codes "cntl") rows (string_bytes commands.cntl) × HasDate rows commands.date

-- the records of `--ptfin` and `--hold`, or files as they come, and not both
abbrev pub HasSetFiles : List Row → SetFiles → Type 0
HasSetFiles rows (Records ptfin hold) = HasText (codes "ptfin") rows (string_bytes ptfin)
    × HasOptional (codes "hold") rows (option_map string_bytes hold) × Lacks (codes "file") rows
HasSetFiles rows (AsTheyCome files) = HasFiles rows (map string_bytes files.items) × Lacks (codes "ptfin") rows
    × Lacks (codes "hold") rows

abbrev pub HasServiceSet : List Row → ServiceSet → Type 0
HasServiceSet rows set = HasSetFiles rows set.files × HasCommands rows set.commands

-- an empty system with an SREL, and no database
abbrev pub IsEmptySystem : List Row → Text → Type 0
IsEmptySystem rows srel = HasSrel rows srel × Lacks (codes "db") rows × Lacks (codes "wait") rows
    × Lacks (codes "zone") rows

-- a copy of a database at a zone, and no SREL
abbrev pub HasCopy : List Row → SystemCopy → Type 0
HasCopy rows copy = HasDatabase rows copy.db × HasZoneName (codes "zone") rows copy.zone × Lacks (codes "srel") rows

-- the one or the other; of a copy there may be ids to ask about
abbrev pub HasSystem : List Row → CheckedSystem → Type 0
HasSystem rows (Empty srel) = IsEmptySystem rows srel × Lacks (codes "why") rows
HasSystem rows (Copied copy) = HasCopy rows copy × AreIds (all_of (codes "why") rows) copy.ids.items

-- the one or the other, without ids to ask about
abbrev pub HasMendedSystem : List Row → CheckedSystem → Type 0
HasMendedSystem rows (Empty srel) = IsEmptySystem rows srel
HasMendedSystem rows (Copied copy) = HasCopy rows copy × (copy.ids.items ≡ [])

-- the check's own APPLY is asked for: the set is a shop's own files, and there are no commands
abbrev pub AsksForApply : List Row → Type 0
AsksForApply rows = Lacks (codes "ptfin") rows × Lacks (codes "cntl") rows

-- the words have the flag
abbrev pub IsGiven : Text → List Row → Type 0
IsGiven id rows = HasText id rows (codes "true")

-- The form of the answer: of records and of commands it is the report; of the check's own APPLY it is the summary, or
-- the report or JSON if the words say so. JSON has no place for ids to ask about.
abbrev pub HasCheckForm : List Row → CheckForm → Type 0
HasCheckForm rows check_form.Summary = AsksForApply rows × ¬ IsGiven (codes "report") rows
    × ¬ IsGiven (codes "json") rows
HasCheckForm rows check_form.Report = (AsksForApply rows → IsGiven (codes "report") rows)
    × ¬ IsGiven (codes "json") rows
HasCheckForm rows check_form.Json = AsksForApply rows × IsGiven (codes "json") rows × ¬ IsGiven (codes "report") rows
    × Lacks (codes "why") rows

-- the file for the certificate, if the words have one; then the check's own APPLY is asked for
abbrev pub HasCertificate : List Row → Option Text → Type 0
HasCertificate rows None = Lacks (codes "certificate") rows
HasCertificate rows (Some name) = HasText (codes "certificate") rows name × AsksForApply rows

abbrev pub HasAnswer : List Row → CheckAnswer → Type 0
HasAnswer rows answer = HasCheckForm rows answer.form
    × HasCertificate rows (option_map string_bytes answer.certificate)

-- the subcommand that asks for it
abbrev pub subcommand : Invocation → Text
subcommand (asked.Zone db definition) = codes "zone"
subcommand (asked.Run db options) = codes "run"
subcommand (asked.List db zone) = codes "list"
subcommand (asked.Why db options) = codes "why"
subcommand (asked.Check system set answer) = codes "check"
subcommand (asked.Mend system options) = codes "mend"
subcommand (asked.Lint options) = codes "lint"
subcommand (asked.Migrate db) = codes "migrate"
subcommand (asked.Verify db) = codes "verify"

-- the options have its values
abbrev pub HasOptions : List Row → Invocation → Type 0
HasOptions rows (asked.Zone db definition) = HasDatabase rows db
    × HasZoneName (codes "name") rows definition.name × HasKind rows definition.kind
    × HasSrel rows definition.srel × HasRelated rows definition.related
HasOptions rows (asked.Run db options) = HasDatabase rows db × HasDate rows options.date
    × HasText (codes "cntl") rows (string_bytes options.cntl)
    × HasOptional (codes "ptfin") rows (option_map string_bytes options.ptfin)
    × HasOptional (codes "hold") rows (option_map string_bytes options.hold)
    × HasFlag (codes "careful") rows options.careful
HasOptions rows (asked.List db zone) = HasDatabase rows db × HasZoneName (codes "zone") rows zone
HasOptions rows (asked.Why db options) = HasDatabase rows db × HasZoneName (codes "zone") rows options.zone
    × HasIds rows options.ids.items × HasFlag (codes "together") rows options.together
    × HasFlag (codes "group") rows options.group
    × HasOptional (codes "bypass") rows (option_map string_bytes options.bypass)
HasOptions rows (asked.Check system set answer) = HasSystem rows system × HasServiceSet rows set × HasAnswer rows answer
HasOptions rows (asked.Mend system options) = HasMendedSystem rows system × HasIds rows options.ids.items
    × HasFiles rows (map string_bytes options.files.items)
HasOptions rows (asked.Lint options) = HasSrel rows options.srel × IsForm (first_of (codes "form") rows) options.form
    × HasFiles rows (map string_bytes options.files.items)
HasOptions rows (asked.Migrate db) = HasDatabase rows db
HasOptions rows (asked.Verify db) = HasDatabase rows db

-- the subcommand that is called, with its values
abbrev pub HasValues : Text × List Row → Invocation → Type 0
HasValues met invocation = (met.0 ≡ subcommand invocation) × HasOptions met.1 invocation
