use Rattle.std.proofs.Common.{ℕ, List, subst}
use Rattle.std.specs.Prelude.{max}
use Rattle.terms.specs.Types.{Id, Text}
use Rattle.smpe_answer.specs.Asked.{PackageFacts}
use Rattle.smpe_answer.specs.Answered.{IsSummaryAnswer}
use Rattle.smpe_answer.specs.Documented.{IsDocumentAnswer}
use Rattle.smpe_command.specs.Packages.{TellsAnswer, asked_ids}
use Rattle.smpe_command.proofs.packages.tell_in_form.Goals as goal

pub returns-in-Summary : goal.returns-in-Summary
returns-in-Summary g c =
    let s = c.args.settled.now in
    let z = c.args.rehearsed.now in
    let facts : Text → Text → ℕ → PackageFacts = λ zone remarks status. record {
      zone = zone;
      source = s.prepared.source;
      ids = s.ids;
      unsure = s.unsure;
      remarks = remarks;
      status = status;
      holds_read = s.holds_read;
    } in
    let Told : Text → Text → ℕ → List Id → Type 0 = λ zone remarks status ids. TellsAnswer g.O.Sink c.args.out.now
    (IsSummaryAnswer z.zones (facts zone remarks status) ids) c.tell_summary.result c.tell_summary.new.out in
    let ids = asked_ids c.args.check.now.system.now in
    rw c.in-Summary.is (subst (λ zone. Told zone s.remarks.items (max s.status z.status) ids) c.zone_of.ensures
    (subst (λ remarks. Told c.zone_of.result remarks (max s.status z.status) ids) c.as_slice.ensures.value
    (subst (λ status. Told c.zone_of.result c.as_slice.result.now status ids) c.max.ensures
    (subst (λ ids. Told c.zone_of.result c.as_slice.result.now c.max.result ids) c.asked_ids-ids.ensures
    c.tell_summary.ensures))))

pub returns-in-Json : goal.returns-in-Json
returns-in-Json g c =
    let s = c.args.settled.now in
    let z = c.args.rehearsed.now in
    let facts : Text → Text → ℕ → PackageFacts = λ zone remarks status. record {
      zone = zone;
      source = s.prepared.source;
      ids = s.ids;
      unsure = s.unsure;
      remarks = remarks;
      status = status;
      holds_read = s.holds_read;
    } in
    let Told : Text → Text → ℕ → Type 0 = λ zone remarks status. TellsAnswer g.O.Sink c.args.out.now
    (IsDocumentAnswer z.zones (facts zone remarks status) z.zones.zone) c.tell_document.result
    c.tell_document.new.out in
    rw c.in-Json.is (subst (λ zone. Told zone s.remarks.items (max s.status z.status)) c.zone_of.ensures
    (subst (λ remarks. Told c.zone_of.result remarks (max s.status z.status)) c.as_slice.ensures.value
    (subst (λ status. Told c.zone_of.result c.as_slice.result.now status) c.max.ensures c.tell_document.ensures)))
