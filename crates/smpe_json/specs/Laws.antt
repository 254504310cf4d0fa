-- The laws of documents.
use Rattle.std.specs.Prelude.{◌≡◌, ◌∷◌, [], ℕ, List, Some, map}
use Rattle.terms.specs.Types.{Text}
use Rattle.machine.specs.Outcome.{Header, Ran, or_nothing}
use Rattle.report.specs.declared.outcome.ReportLine.{ReportLine}
use Rattle.report.specs.Views.{line_view}
use Rattle.smpe_summary.specs.declared.values.Summary.{Summary}
use Rattle.smpe_json.specs.Documents.{check_value}
use Rattle.smpe_json.specs.Reading.{commands_in}

-- A document tells one command, with just its header and the lines that it prints, in their order.
abbrev pub DocumentTells : Type 0
DocumentTells = (header : Header) (lines : List ReportLine) (summary : Summary) (remarks : Text) (status : ℕ)
    → commands_in (check_value header (map line_view lines) summary remarks status)
    ≡ Some (Ran header (or_nothing (map line_view lines)) ∷ [])
