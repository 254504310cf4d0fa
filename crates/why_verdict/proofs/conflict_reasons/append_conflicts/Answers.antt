use Rattle.std.proofs.Common.{◌++◌, ◌∙◌, ap, arith, take_all}
use Rattle.std.specs.List.{flat_map}
use Rattle.why_verdict.specs.Verdict.{conflict_reason}
use Rattle.report.proofs.Texts.{flat_more}
use Rattle.why_verdict.proofs.conflict_reasons.append_conflicts.Goals as goal

pub loop-conflict-preserved : goal.loop-conflict-preserved
loop-conflict-preserved c =
    flat_more (conflict_reason c.args.test) c.args.conflicts.now c.loop-conflict.conflict-index c.conflict-item.result
    c.args.text.now.items
    c.loop-conflict.text.items c.append_conflict.new.text.items (omega arith) c.conflict-item.is c.loop-conflict.invariant
    c.in_ok-append_conflict.ensures

pub returns : goal.returns
returns c =
    c.loop-conflict.invariant
    ∙ ap (λ l. c.args.text.now.items ++ flat_map (conflict_reason c.args.test) l)
    (take_all c.loop-conflict.conflict-index c.args.conflicts.now (omega arith))
