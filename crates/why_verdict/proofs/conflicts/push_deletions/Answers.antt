use Rattle.std.proofs.Common.{◌++◌, ◌∙◌, ap, arith, take_all}
use Rattle.std.specs.List.{flat_map}
use Rattle.zones.specs.Scopes.{setting_of}
use Rattle.why_verdict.specs.Conflicts.{deletion_of}
use Rattle.report.proofs.Texts.{grown_more}
use Rattle.why_verdict.proofs.conflicts.push_deletions.Goals as goal

pub loop-del-preserved : goal.loop-del-preserved
loop-del-preserved c =
    grown_more (deletion_of (setting_of c.args.scope.now) c.args.id c.args.by) c.del-del-items.result.now
    c.loop-del.del-index
    c.del-item.result c.args.found.now.items c.loop-del.found.items c.push_deletion.new.found.items (omega arith)
    c.del-item.is c.loop-del.invariant c.in_ok-push_deletion.ensures

pub returns : goal.returns
returns c =
    c.loop-del.invariant
    ∙ ap (λ l. c.args.found.now.items ++ flat_map (deletion_of (setting_of c.args.scope.now) c.args.id c.args.by) l)
    (take_all c.loop-del.del-index c.del-del-items.result.now (omega arith) ∙ c.del-del-items.ensures)
