use Rattle.std.proofs.Common.{◌≡◌, ◌++◌, ◌∷◌, [], string_bytes, rules}
use Rattle.report.specs.Views.{header_view}
use Rattle.smpe_json.proofs.Plain.{check_plain, document_of}
use Rattle.smpe_json.proofs.document.check_document.Goals as goal

pub returns : goal.returns
returns c =
    let text : c.into_bytes.result.items ≡ string_bytes c.in_ok-text.text ++ 10 ∷ [] = search rules in
    document_of _ _ _ _ c.in_ok-value.ensures
    (check_plain (header_view c.args.header.now) c.args.asked.now.lines c.args.summary.now c.args.remarks.now
    c.args.status)
    c.in_ok-text.ensures.text c.in_ok-text.ensures.reads_back text
