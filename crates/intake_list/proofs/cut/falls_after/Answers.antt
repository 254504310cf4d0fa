use Rattle.std.proofs.Common.{refl, arith}
use Rattle.intake_list.specs.Cut.{falls_after, fall_here}
use Rattle.intake_list.proofs.Rest.{rest_more, rest_all}
use Rattle.intake_list.proofs.cut.falls_after.Goals as goal

pub loop-entry-preserved : goal.loop-entry-preserved
loop-entry-preserved c =
    let l = c.loop-entry in
    let entry = c.entry-item.result in
    rest_more (falls_after l.before.now) (falls_after entry) c.args.entries.now l.entry-index entry l.found.items
    (fall_here l.before.now entry) c.add_fall.new.found.items _ (omega arith) c.entry-item.is refl
    c.in_ok-add_fall.ensures l.invariant

pub returns : goal.returns
returns c =
    let l = c.loop-entry in
    rest_all (falls_after l.before.now) c.args.entries.now l.entry-index l.found.items _ (omega arith) refl l.invariant
