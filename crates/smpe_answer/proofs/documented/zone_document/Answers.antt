use Rattle.std.proofs.Common.{◌≡◌, ◌∙◌, IfOk, List, Option, Some, map, ap, subst, rules}
use Rattle.std.specs.Prelude.{option_copied}
use Rattle.std.proofs.lemmas.Result.{IfOk-weaker}
use Rattle.terms.specs.Types.{Zone}
use Rattle.machine.specs.Outcome.{Header}
use Rattle.report.specs.Views.{header_view, line_view}
use Rattle.smpe_answer.specs.Asked.{AreLinesOf, PackageFacts}
use Rattle.smpe_answer.specs.Answered.{asked_of}
use Rattle.smpe_answer.specs.Documented.{IsDocumentAnswer, IsDocumented, install_header}
use Rattle.smpe_answer.proofs.documented.zone_document.Goals as goal

pub returns : goal.returns
returns c =
    let zones = c.args.zones.now in
    let zone = c.args.zone.now in
    let facts = c.args.facts.now in
    let inside : PackageFacts = record {
      zone = c.facts.inside.zone;
      source = c.facts.inside.source;
      ids = c.facts.inside.ids.now;
      unsure = c.facts.inside.unsure.now;
      remarks = c.facts.inside.remarks.now;
      status = c.facts.inside.status;
      holds_read = c.facts.inside.holds_read;
    } in
    let is : inside ≡ facts = search rules in
    let related : option_copied c.as_ref-related.result ≡ zones.related = search rules in
    let lines = map line_view c.in_ok-lines.lines.items in
    let made : Header = header_view c.install_header-header.result in
    let header : made ≡ install_header facts.zone zone.kind = c.install_header-header.ensures
    ∙ ap (install_header inside.zone) c.kind.ensures ∙ ap (λ (p : PackageFacts). install_header p.zone zone.kind) is in
    let are : AreLinesOf zones.global zone zones.related facts.source lines =
    subst (λ (p : PackageFacts). AreLinesOf zones.global zone zones.related p.source lines) is
    (subst (λ (r : Option Zone). AreLinesOf zones.global zone r inside.source lines) related c.in_ok-lines.ensures) in
    let told : IfOk c.document.result (IsDocumented (install_header facts.zone zone.kind)
    (asked_of zones zone facts lines) facts) =
    subst (λ (h : Header). IfOk c.document.result (IsDocumented h (asked_of zones zone facts lines) facts)) header
    (subst (λ (p : PackageFacts). IfOk c.document.result (IsDocumented made (asked_of zones zone p lines) facts)) is
    (subst (λ (all : List _). IfOk c.document.result (IsDocumented made (asked_of zones zone inside (map line_view all))
    facts)) c.as_slice.ensures.value c.document.ensures)) in
    IfOk-weaker c.document.result (IsDocumented (install_header facts.zone zone.kind) (asked_of zones zone facts lines)
    facts) (IsDocumentAnswer zones facts (Some zone)) (λ answer document. (lines, are, document)) told
