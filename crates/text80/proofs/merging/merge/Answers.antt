use Rattle.std.proofs.Common.{◌<◌, ◌≤◌, sym, ◌∙◌, subst}
use Rattle.std.specs.List.{All}
use Rattle.terms.specs.Texts.{IsNumberedLine, IsNumbered}
use Rattle.text80.proofs.Merges.{merge_from, merge_numbered}
use Rattle.text80.proofs.Sweeping.{merging_none, all_behind, swept_at_line, given_at, kept_at, gone_at}
use Rattle.text80.proofs.Sweeping.{merged_all, first_known, nowhere_known}
use Rattle.text80.proofs.merging.merge.Goals as goal
use Rattle.text80.proofs.merging.merge.Goals.{in-Some+in_ok-push-in-Some, in-None, in-None-2+in_ok-push-in-None-2}

pub loop-line-init : goal.loop-line-init
loop-line-init c =
    rw c.new-merged.ensures.items (merging_none c.ranges-ranges.result.now c.lines-line-items.result.now
    c.lines-given.result.now
    (subst IsNumbered (sym c.lines-line-items.ensures.lines) c.lines-line-items.ensures.numbered)
    (subst IsNumbered (sym c.lines-given.ensures.lines) c.lines-given.ensures.numbered)
    c.ranges-ranges.ensures.rising)

pub split_below-requires : goal.split_below-requires
split_below-requires c = c.loop-line.invariant.rest_numbered

pub split_number-requires : goal.split_number-requires
split_number-requires c =
    all_behind c.split_below.result.0.now c.split_below.result.1.now
    (subst (All IsNumberedLine) c.split_below.ensures.lines_are c.loop-line.invariant.rest_numbered)

pub loop-line-preserved : goal.loop-line-preserved
loop-line-preserved c =
    let all = c.ranges-ranges.result.now in
    let old = c.lines-line-items.result.now in
    let givens = c.lines-given.result.now in
    let i = c.loop-line.line-index in
    let n = c.known_number-number.result in
    let o = c.line-item.result in
    let swept = c.sweep-swept.ensures.swept all (swept_at_line all old givens c.loop-line.given.now
    c.loop-line.merged.items c.loop-line.ranges.now c.loop-line.reach i n o c.loop-line-test.true c.line-item.is
    c.known_number-number.ensures c.loop-line.invariant) in
    elim c.match-same.branch [
      | in-Some+in_ok-push-in-Some w ↦
          rw (w.merged-is, w.in_ok-push-in-Some.ensures.items, c.in_ok-extend_from_slice.ensures.items)
          (given_at all old givens c.loop-line.given.now c.loop-line.merged.items c.loop-line.ranges.now
          c.loop-line.reach i n o c.loop-line-test.true c.line-item.is c.known_number-number.ensures
          c.loop-line.invariant
          c.split_below.result.0.now c.split_below.result.1.now w.in-Some.first.now c.split_number.result.1.now
          c.sweep-swept.result.0.now c.sweep-swept.result.1 c.split_below.ensures
          (first_known n c.split_below.result.1.now c.split_number.result.1.now c.split_number.result.0 w.in-Some.first
          w.in-Some.is c.split_number.ensures.some) swept)
      | in-None w ↦
          rw (w.merged-is, c.in_ok-extend_from_slice.ensures.items)
          (gone_at all old givens c.loop-line.given.now c.loop-line.merged.items c.loop-line.ranges.now
          c.loop-line.reach i n o c.loop-line-test.true c.line-item.is c.known_number-number.ensures
          c.loop-line.invariant
          c.split_below.result.0.now c.split_below.result.1.now c.split_number.result.1.now c.sweep-swept.result.0.now
          c.sweep-swept.result.1 c.split_below.ensures
          (nowhere_known n c.split_below.result.1.now c.split_number.result.1.now c.split_number.result.0 w.in-None.is
          c.split_number.ensures.none) swept c.sweep-swept.ensures.above
          (subst (λ m. m < c.sweep-swept.result.1) w.from.ensures w.if-from-reach.true))
      | in-None-2+in_ok-push-in-None-2 w ↦
          rw (w.merged-is, w.in_ok-push-in-None-2.ensures.items, c.in_ok-extend_from_slice.ensures.items)
          (kept_at all old givens c.loop-line.given.now c.loop-line.merged.items c.loop-line.ranges.now
          c.loop-line.reach i n o c.loop-line-test.true c.line-item.is c.known_number-number.ensures
          c.loop-line.invariant
          c.split_below.result.0.now c.split_below.result.1.now c.split_number.result.1.now c.sweep-swept.result.0.now
          c.sweep-swept.result.1 c.split_below.ensures
          (nowhere_known n c.split_below.result.1.now c.split_number.result.1.now c.split_number.result.0 w.in-None.is
          c.split_number.ensures.none) swept c.sweep-swept.ensures.above
          (subst (λ m. c.sweep-swept.result.1 ≤ m) w.from.ensures w.if-from-reach.false))
    ]

pub invariant_of-result : goal.invariant_of-result
invariant_of-result c =
    rw c.in_ok-extend_from_slice-2.ensures.items (merge_numbered c.ranges-ranges.result.now
    c.lines-line-items.result.now c.lines-given.result.now _
    (merged_all c.ranges-ranges.result.now c.lines-line-items.result.now c.lines-given.result.now c.loop-line.given.now
    c.loop-line.merged.items c.loop-line.ranges.now c.loop-line.reach c.loop-line.line-index c.loop-line-test.false
    c.loop-line.invariant)
    (subst IsNumbered (sym c.lines-line-items.ensures.lines) c.lines-line-items.ensures.numbered)
    (subst IsNumbered (sym c.lines-given.ensures.lines) c.lines-given.ensures.numbered))

pub returns : goal.returns
returns c =
    rw (← c.lines-line-items.ensures.lines, c.in_ok-extend_from_slice-2.ensures.items)
    (merge_from c.ranges-ranges.result.now c.lines-line-items.result.now c.args.update.now c.lines-given.result.now
    _
    (merged_all c.ranges-ranges.result.now c.lines-line-items.result.now c.lines-given.result.now c.loop-line.given.now
    c.loop-line.merged.items c.loop-line.ranges.now c.loop-line.reach c.loop-line.line-index c.loop-line-test.false
    c.loop-line.invariant)
    (subst IsNumbered (sym c.lines-line-items.ensures.lines) c.lines-line-items.ensures.numbered)
    (subst IsNumbered (sym c.lines-given.ensures.lines) c.lines-given.ensures.numbered)
    (c.lines-given.ensures.lines ∙ c.in_ok-all_given.ensures) c.ranges-ranges.ensures.ranges)
