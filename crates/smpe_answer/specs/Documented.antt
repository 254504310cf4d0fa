-- The document about a package.
use Rattle.std.specs.Prelude.{◌≡◌, true, max, List, Option, None, Some, codes}
use Rattle.terms.specs.declared.kinds.ZoneKind.{ZoneKind}
use Rattle.terms.specs.declared.kinds.ZoneKind.TheVariants.{Target, Distribution}
use Rattle.terms.specs.declared.codes.CommandWord.{CommandWord}
use Rattle.terms.specs.declared.codes.CommandWord.TheVariants.{Apply, Accept}
use Rattle.terms.specs.Types.{Text, Zone}
use Rattle.machine.specs.Outcome.{Header, Line}
use Rattle.smpe_json.specs.Documents.{IsDocumentOf, check_value, fault_value}
use Rattle.smpe_summary.specs.Asked.{Asked}
use Rattle.smpe_summary.specs.Summary.{IsSummary}
use Rattle.smpe_summary.specs.Text.{status_of}
use Rattle.smpe_summary.specs.declared.values.Summary.{Summary}
use Rattle.smpe_why.specs.declared.found.LoadedZones.{LoadedZones}
use Rattle.smpe_answer.specs.Asked.{AreLinesOf, PackageFacts}
use Rattle.smpe_answer.specs.Answered.{asked_of, package_status}
use Rattle.smpe_answer.specs.declared.asked_ids.Answer.{Answer}

abbrev pub install_word : ZoneKind → CommandWord
install_word Target = Apply
install_word Distribution = Accept

-- the header of an APPLY CHECK into the zone of this name, in a distribution zone of an ACCEPT CHECK
abbrev pub install_header : Text → ZoneKind → Header
install_header name kind = record { word = install_word kind; boundary = Some name; check = true }

-- It is the document of a summary of that. The status is that of the package, or that of the summary if it is greater,
-- and stands in the document.
abbrev pub IsDocumented : Header → Asked → PackageFacts → Answer → Type 0
IsDocumented header a p answer = (s : Summary) × IsSummary a s
    × (answer.status ≡ max (status_of s) (package_status p))
    × IsDocumentOf (check_value header a.lines s p.remarks answer.status) answer.text.items

-- It is the document that says what SET prints if no zone has the name.
abbrev pub IsZoneRefusal : Answer → Type 0
IsZoneRefusal answer = IsDocumentOf (fault_value (codes "REFUSED Cm2") 12) answer.text.items × (answer.status ≡ 12)

-- The document is told, or that there is no such zone.
abbrev pub IsDocumentAnswer : LoadedZones → PackageFacts → Option Zone → Answer → Type 0
IsDocumentAnswer found p None answer = IsZoneRefusal answer
IsDocumentAnswer found p (Some zone) answer = (lines : List Line)
    × AreLinesOf found.global zone found.related p.source lines
    × IsDocumented (install_header p.zone zone.kind) (asked_of found zone p lines) p answer
