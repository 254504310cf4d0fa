use Rattle.machine.specs.Receiving.{TakesHoldItem}
use Rattle.mcs.specs.HoldItems.{items}
use Rattle.machine.specs.Runs.{Runs}
use Rattle.smpe_global.proofs.Items.{all_printed, all_fit, all_after, all_receive, all_written}
use Rattle.smpe_global.proofs.holddata.receive_holds.Goals as goal

pub returns-clause-runs : goal.returns-clause-runs
returns-clause-runs c =
    let now = c.receive_hold_items.new in
    all_printed (Runs TakesHoldItem c.args.global.now (items c.args.hold_items.items)) c.args.global.now now.global
    c.new-change.result now.change c.in_ok-receive_hold_items.ensures c.new-change.ensures.lines

pub returns-clause-receives : goal.returns-clause-receives
returns-clause-receives c =
    let now = c.receive_hold_items.new in
    all_receive (Runs TakesHoldItem c.args.global.now (items c.args.hold_items.items)) c.args.global.now now.global
    c.new-change.result now.change c.in_ok-receive_hold_items.ensures c.new-change.ensures.edits

pub returns-clause-written : goal.returns-clause-written
returns-clause-written c =
    let now = c.receive_hold_items.new in
    all_written (Runs TakesHoldItem c.args.global.now (items c.args.hold_items.items)) c.args.global.now now.global
    c.new-change.result now.change c.in_ok-receive_hold_items.ensures c.new-change.ensures.edits

pub returns-clause-fits : goal.returns-clause-fits
returns-clause-fits c =
    let now = c.receive_hold_items.new in
    all_fit (Runs TakesHoldItem c.args.global.now (items c.args.hold_items.items)) c.args.global.now now.global
    c.new-change.result now.change c.in_ok-receive_hold_items.ensures c.new-change.ensures.edits

pub returns-clause-edits : goal.returns-clause-edits
returns-clause-edits c =
    let now = c.receive_hold_items.new in
    all_after (Runs TakesHoldItem c.args.global.now (items c.args.hold_items.items)) c.args.global.now now.global
    c.new-change.result now.change c.in_ok-receive_hold_items.ensures c.new-change.ensures.edits
