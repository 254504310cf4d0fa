use Rattle.std.proofs.Common.{◌≡◌, IfOk, List, Option, map, subst, sym, rules}
use Rattle.std.specs.Prelude.{option_copied}
use Rattle.std.proofs.lemmas.Result.{IfOk-weaker}
use Rattle.terms.specs.Types.{Zone}
use Rattle.report.specs.Views.{line_view}
use Rattle.smpe_answer.specs.Asked.{AreLinesOf, PackageFacts}
use Rattle.smpe_answer.specs.Answered.{IsSummarized, IsSummaryPart, asked_of, package_status}
use Rattle.smpe_answer.proofs.summarized.summary_part.Goals as goal

pub returns : goal.returns
returns c =
    let zones = c.args.zones.now in
    let zone = c.in-Some.zone in
    let facts = c.args.facts.now in
    let inside : PackageFacts = record {
      zone = c.facts.inside.zone;
      source = c.facts.inside.source;
      ids = c.facts.inside.ids.now;
      unsure = c.facts.inside.unsure.now;
      remarks = c.facts.inside.remarks.now;
      status = c.facts.inside.status;
      holds_read = c.facts.inside.holds_read;
    } in
    let is : inside ≡ facts = search rules in
    let related : option_copied c.as_ref-related.result ≡ zones.related = search rules in
    let lines = map line_view c.in_ok-lines.lines.items in
    let are : AreLinesOf zones.global zone zones.related facts.source lines =
    subst (λ (p : PackageFacts). AreLinesOf zones.global zone zones.related p.source lines) is
    (subst (λ (r : Option Zone). AreLinesOf zones.global zone r inside.source lines) related c.in_ok-lines.ensures) in
    let told : IfOk c.summarize.result (IsSummarized (asked_of zones zone facts lines) (package_status facts)) =
    subst (λ status. IfOk c.summarize.result (IsSummarized (asked_of zones zone facts lines) status))
    c.package_status.ensures
    (subst (λ (p : PackageFacts). IfOk c.summarize.result (IsSummarized (asked_of zones zone p lines)
    c.package_status.result)) is
    (subst (λ (all : List _). IfOk c.summarize.result (IsSummarized (asked_of zones zone inside (map line_view all))
    c.package_status.result)) c.as_slice.ensures.value c.summarize.ensures)) in
    subst (λ there. IfOk c.summarize.result (IsSummaryPart zones facts there)) (sym c.in-Some.is)
    (IfOk-weaker c.summarize.result (IsSummarized (asked_of zones zone facts lines) (package_status facts)) _
    (λ answer summed. (lines, are, summed)) told)
