use Rattle.std.proofs.Common.{◌∙◌, subst, take_all, arith}
use Rattle.terms.specs.Types.{Change}
use Rattle.terms.specs.Lookups.{change_key}
use Rattle.sorted.specs.ElementKeys.{key_cmp}
use Rattle.sorted.specs.MultiMap.{Adds}
use Rattle.zones.specs.Grouping.{AddsBy}
use Rattle.zones.proofs.Grouped.{by_next, changers_next}
use Rattle.zones.proofs.changers.changers_by_element.Goals as goal

pub loop-change-preserved : goal.loop-change-preserved
loop-change-preserved c =
    by_next c.id-item.result c.changes_of-changes.result.now c.loop-change.change-index c.change-item.result
    c.loop-id.changers c.loop-change.changers c.add.new.lists (omega arith) c.change-item.is c.loop-change.invariant
    (subst (λ (h : Change). Adds key_cmp (change_key h) c.id-item.result c.loop-change.changers c.add.new.lists)
    c.change.view_is c.in_ok-add.ensures)

pub loop-id-preserved : goal.loop-id-preserved
loop-id-preserved c =
    changers_next c.args.global.now c.args.ids.now c.loop-id.id-index c.id-item.result c.loop-id.changers
    c.loop-change.changers c.attest.ensures (omega arith) c.id-item.is c.loop-id.invariant
    (subst (λ l. AddsBy c.id-item.result l c.loop-id.changers c.loop-change.changers)
    (take_all c.loop-change.change-index c.changes_of-changes.result.now (omega arith)
    ∙ c.changes_of-changes.ensures) c.loop-change.invariant)
