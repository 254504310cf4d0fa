use Rattle.std.proofs.Common.{◌∙◌}
use Rattle.machine.specs.Receiving.{TakesItem}
use Rattle.mcs.specs.Files.{items}
use Rattle.machine.specs.Runs.{Runs}
use Rattle.smpe_global.proofs.Items.{all_printed, all_fit, all_after, all_receive, all_written}
use Rattle.smpe_global.proofs.ptfin.receive_ptfin.Goals as goal

pub returns-clause-runs : goal.returns-clause-runs
returns-clause-runs c =
    let now = c.receive_items.new in
    all_printed (Runs (TakesItem c.args.source) c.args.global.now (items c.args.ptfin_items.items)) c.args.global.now
    now.global c.new-change.result now.change c.in_ok-receive_items.ensures c.new-change.ensures.lines

pub returns-clause-receives : goal.returns-clause-receives
returns-clause-receives c =
    let now = c.receive_items.new in
    c.in_ok-edits.ensures.receives
    (all_receive (Runs (TakesItem c.args.source) c.args.global.now (items c.args.ptfin_items.items)) c.args.global.now
    now.global c.new-change.result now.change c.in_ok-receive_items.ensures c.new-change.ensures.edits)

pub returns-clause-written : goal.returns-clause-written
returns-clause-written c =
    let now = c.receive_items.new in
    c.in_ok-edits.ensures.written
    (all_written (Runs (TakesItem c.args.source) c.args.global.now (items c.args.ptfin_items.items)) c.args.global.now
    now.global c.new-change.result now.change c.in_ok-receive_items.ensures c.new-change.ensures.edits)

pub returns-clause-fits : goal.returns-clause-fits
returns-clause-fits c =
    let now = c.receive_items.new in
    λ stated states. c.in_ok-edits.ensures.fits stated c.args.global.now
    (all_fit (Runs (TakesItem c.args.source) c.args.global.now (items c.args.ptfin_items.items)) c.args.global.now
    now.global c.new-change.result now.change c.in_ok-receive_items.ensures c.new-change.ensures.edits
    stated states)

pub returns-clause-edits : goal.returns-clause-edits
returns-clause-edits c =
    let now = c.receive_items.new in
    λ stated states. c.in_ok-edits.ensures.after stated c.args.global.now
    ∙ all_after (Runs (TakesItem c.args.source) c.args.global.now (items c.args.ptfin_items.items))
    c.args.global.now now.global c.new-change.result now.change c.in_ok-receive_items.ensures
    c.new-change.ensures.edits stated states
