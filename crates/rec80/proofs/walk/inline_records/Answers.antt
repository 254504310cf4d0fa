use Rattle.rec80.proofs.Ending.{period_some, ends_from}
use Rattle.rec80.proofs.walk.inline_records.Goals as goal

pub split_at-requires : goal.split_at-requires
split_at-requires c = period_some c.first_stop-stop.result.0 c.first_stop-stop.result.1 c.in-Period.is
    c.first_stop-stop.ensures.stop

pub returns-then-is_idle-clause-ok : goal.returns-then-is_idle-clause-ok
returns-then-is_idle-clause-ok c =
    let e = ends_from c.args.from.now c.first_stop-stop.result.0 c.first_stop-stop.result.1 c.split_at.result.1.now
    c.in-Period.is c.first_stop-stop.ensures.stop c.first_stop-stop.ensures.walks
    c.first_stop-stop.ensures.ahead c.split_at.ensures.back in
    (e.0, c.split_at.result.1.now, e.1, c.is_idle.ensures.idle c.if-is_idle.true)

pub returns-else-is_idle-clause-fault : goal.returns-else-is_idle-clause-fault
returns-else-is_idle-clause-fault c =
    let e = ends_from c.args.from.now c.first_stop-stop.result.0 c.first_stop-stop.result.1 c.split_at.result.1.now
    c.in-Period.is c.first_stop-stop.ensures.stop c.first_stop-stop.ensures.walks
    c.first_stop-stop.ensures.ahead c.split_at.ensures.back in
    (e.0, c.split_at.result.1.now, c.first_stop-stop.result.0.later.now, e.1, c.is_idle.ensures.text c.if-is_idle.false)
