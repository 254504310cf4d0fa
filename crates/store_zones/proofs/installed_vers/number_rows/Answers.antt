use Rattle.std.proofs.Common.{ap, ap₂, map, sym, ◌∙◌}
use Rattle.store_rows.specs.Rows.{as_bound}
use Rattle.store_schema.specs.Rows.{chosen_row}
use Rattle.store_zones.proofs.NumberRows.{number_pushed, number_skipped}
use Rattle.store_zones.proofs.installed_vers.number_rows.Goals as goal

pub loop-entry-preserved-then-get-eq1 : goal.loop-entry-preserved-then-get-eq1
loop-entry-preserved-then-get-eq1 c =
    number_skipped c.args.zone.now (λ e. e.now) c.args.entries.now c.loop-entry.entry-index
    c.entry-item.result c.loop-entry-test.true c.entry-item.is c.get.result
    (c.get.ensures.value ∙ c.number-number.ensures) c.loop-entry.rows.items c.if-get-eq1.true c.loop-entry.invariant

pub loop-entry-preserved : goal.loop-entry-preserved
loop-entry-preserved c =
    ap (map as_bound) c.in_ok-push.ensures.items
    ∙ number_pushed c.args.zone.now (λ e. e.now) c.args.entries.now c.loop-entry.entry-index
    c.entry-item.result c.loop-entry-test.true c.entry-item.is c.get.result
    (c.get.ensures.value ∙ c.number-number.ensures) c.loop-entry.rows.items c.in_ok-row_in_zone.field-0
    c.if-get-eq1.false
    c.loop-entry.invariant (c.in_ok-row_in_zone.ensures
    ∙ ap₂ (chosen_row c.args.zone.now) (ap (λ e. e.now.id) c.entry.view_is) (sym c.get.ensures.value))
