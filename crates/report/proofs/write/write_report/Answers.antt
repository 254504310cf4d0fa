use Rattle.std.proofs.Common.{append-nil, rules}
use Rattle.machine.specs.Report.{text}
use Rattle.report.specs.Sent.{Sent}
use Rattle.report.specs.Views.{outcome_view}
use Rattle.report.proofs.Paging.{paged_then, paged_as, sent_all}
use Rattle.report.proofs.write.write_report.Goals as goal

pub returns-clause-sends : goal.returns-clause-sends
returns-clause-sends g c =
    let all =
    sent_all _ _ _ _ _ c.new-page.ensures.waiting c.flush.ensures.waiting
    (paged_as _ _ _ _ _ _ (append-nil _)
    (paged_then _ _ _ _ _ _ _ _ c.print_outcome-code.ensures.paged c.flush.ensures.paged)) in
    let sent : Sent g.W.Sink c.args.w.now c.flush.new.self.sink.now (text (outcome_view c.args.outcome.now)) =
    rw c.new-page.ensures.sink at all in
    search rules
