use Rattle.std.proofs.Common.{◌∷◌, append-nil, map, rules}
use Rattle.machine.specs.Report.{words_line}
use Rattle.report.specs.Sent.{Sent}
use Rattle.report.specs.WordTexts.{word_text}
use Rattle.report.proofs.Paging.{paged_then, paged_as, sent_all}
use Rattle.report.proofs.line_words.write_words.Goals as goal

pub returns-clause-sends : goal.returns-clause-sends
returns-clause-sends g c =
    let all =
    sent_all _ _ _ _ _ c.new-page.ensures.waiting c.flush.ensures.waiting
    (paged_as _ _ _ _ _ _ (append-nil _)
    (paged_then _ _ _ _ _ _ _ _ c.print_words.ensures.paged c.flush.ensures.paged)) in
    let sent : Sent g.W.Sink c.args.w.now c.flush.new.self.sink.now
    (words_line (c.args.start.now ∷ map word_text c.args.words.now)) =
    rw c.new-page.ensures.sink at all in
    search rules
