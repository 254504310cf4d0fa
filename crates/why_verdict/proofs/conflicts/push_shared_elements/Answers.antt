use Rattle.std.proofs.Common.{◌++◌, ◌∙◌, ap, arith, take_all}
use Rattle.std.specs.List.{flat_map}
use Rattle.terms.specs.Lookups.{changes_of}
use Rattle.zones.specs.Scopes.{global_of}
use Rattle.why_verdict.specs.Conflicts.{share_of}
use Rattle.report.proofs.Texts.{grown_more}
use Rattle.why_verdict.proofs.conflicts.push_shared_elements.Goals as goal

pub loop-change-preserved : goal.loop-change-preserved
loop-change-preserved c =
    grown_more (share_of (global_of c.args.scope.now) c.args.with c.args.apart) c.changes_of-changes.result.now
    c.loop-change.change-index c.change-item.result c.args.found.now.items c.loop-change.found.items
    c.push_shared_element.new.found.items (omega arith) c.change-item.is c.loop-change.invariant
    (c.in_ok-push_shared_element.ensures
    ∙ ap (λ g. c.loop-change.found.items ++ share_of g c.args.with c.args.apart c.change-item.result)
    c.global-global.ensures)

pub returns : goal.returns
returns c =
    c.loop-change.invariant
    ∙ ap (λ l. c.args.found.now.items ++ flat_map (share_of (global_of c.args.scope.now) c.args.with c.args.apart) l)
    (take_all c.loop-change.change-index c.changes_of-changes.result.now (omega arith) ∙ c.changes_of-changes.ensures
    ∙ ap (λ g. changes_of g c.args.id) c.global-global.ensures)
