use Rattle.std.proofs.Common.{◌∙◌, ◌+◌, map, drop, sym, refl, arith}
use Rattle.intake_list.specs.Entries.{values_below, more_values}
use Rattle.intake_list.proofs.Rest.{rest_more, rest_stop, rest_all, values_stop, values_more}
use Rattle.intake_list.proofs.entry.add_values_below.Goals as goal

pub returns-then-ends_key : goal.returns-then-ends_key
returns-then-ends_key c =
    let l = c.loop-row in
    rest_stop values_below c.args.below.now l.row-index c.row-item.result (map (λ word. word.now) l.values.items) _
    (omega arith) c.row-item.is
    (values_stop c.row-item.result (drop (l.row-index + 1) c.args.below.now)
    (sym c.ends_key.ensures ∙ c.if-ends_key.true))
    l.invariant

pub loop-row-preserved : goal.loop-row-preserved
loop-row-preserved c =
    let l = c.loop-row in
    let row = c.row-item.result in
    rest_more values_below values_below c.args.below.now l.row-index row (map (λ word. word.now) l.values.items)
    (more_values row) (map (λ word. word.now) c.add_more_values.new.values.items) _ (omega arith) c.row-item.is
    (values_more row (drop (l.row-index + 1) c.args.below.now) (sym c.ends_key.ensures ∙ c.if-ends_key.false))
    c.in_ok-add_more_values.ensures l.invariant

pub returns : goal.returns
returns c =
    let l = c.loop-row in
    rest_all values_below c.args.below.now l.row-index (map (λ word. word.now) l.values.items) _ (omega arith) refl
    l.invariant
