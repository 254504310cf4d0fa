-- What is told of a package.
use Rattle.std.specs.Prelude.{◌≡◌, ◌++◌, ℕ, false, true, max, List, [], Option, None, Some, if◌then◌else◌}
use Rattle.terms.specs.CommandForms.{no_bypass}
use Rattle.terms.specs.Lookups.{is_nil}
use Rattle.terms.specs.Types.{Id, Zone}
use Rattle.machine.specs.Outcome.{Line}
use Rattle.smpe_summary.specs.Asked.{Asked}
use Rattle.smpe_summary.specs.Summary.{IsSummary}
use Rattle.smpe_summary.specs.Text.{summary_text, status_of}
use Rattle.smpe_summary.specs.declared.values.Summary.{Summary}
use Rattle.smpe_why.specs.Telling.{Inquiry, IsTold}
use Rattle.smpe_why.specs.declared.found.LoadedZones.{LoadedZones}
use Rattle.smpe_why.specs.declared.told.WhyAnswer.{WhyAnswer}
use Rattle.smpe_answer.specs.Asked.{AreLinesOf, PackageFacts}
use Rattle.smpe_answer.specs.declared.asked_ids.Answer.{Answer}

-- the question about ids, each by itself and without BYPASS
abbrev pub plainly : List Id → Inquiry
plainly ids = record { ids = ids; together = false; groupextend = false; bypass = no_bypass }

-- What is told of the ids comes after this part. If there is no such zone, that is told.
abbrev pub IsJoined : LoadedZones → List Id → Answer → Answer → Type 0
IsJoined found ids part answer = (why : WhyAnswer)
    × IsTold found.global found.zone found.related (plainly ids) why
    × (answer.text.items ≡ part.text.items ++ why.text.items) × (answer.status ≡ max part.status why.status)

-- the status of the package itself: that of its remarks, or 12 if it has no SYSMOD
abbrev pub package_status : PackageFacts → ℕ
package_status p = if is_nil p.ids then max p.status 12 else p.status

-- what the summary is made of, given the lines of the APPLY
abbrev pub asked_of : LoadedZones → Zone → PackageFacts → List Line → Asked
asked_of found zone p lines = record {
  global = found.global;
  zone = zone;
  lines = lines;
  members = p.ids;
  unsure = p.unsure;
  holds_read = p.holds_read;
}

-- It is the text of a summary of that. The status is this one, or that of the summary if it is greater.
abbrev pub IsSummarized : Asked → ℕ → Answer → Type 0
IsSummarized a status answer = (s : Summary) × IsSummary a s × (answer.text.items ≡ summary_text s)
    × (answer.status ≡ max (status_of s) status)

-- The package is summarized for the zone, if there is one.
abbrev pub IsSummaryPart : LoadedZones → PackageFacts → Option Zone → Answer → Type 0
IsSummaryPart found p None part = (part.text.items ≡ []) × (part.status ≡ 0)
IsSummaryPart found p (Some zone) part = (lines : List Line) × AreLinesOf found.global zone found.related p.source lines
    × IsSummarized (asked_of found zone p lines) (package_status p) part

-- The summary is told, and after it the ids. If there is no such zone, only that is told.
abbrev pub IsSummaryAnswer : LoadedZones → PackageFacts → List Id → Answer → Type 0
IsSummaryAnswer found p ids answer =
    (part : Answer) × IsSummaryPart found p found.zone part × IsJoined found ids part answer
