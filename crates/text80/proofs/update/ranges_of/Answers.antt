use Rattle.std.proofs.Common.{refl, sym, ◌∙◌, rules}
use Rattle.std.proofs.lemmas.List.Sorted.{IsNonDecreasingBy-from_sort, answers_always}
use Rattle.text80.specs.declared.control.Range.{Range}
use Rattle.text80.proofs.Splitting.{split_control_at, split_given_at, good_from, control_fault, number_fault}
use Rattle.text80.proofs.update.ranges_of.Goals as goal
use Rattle.text80.proofs.update.ranges_of.Goals.{then-is_control+in-Some+in_ok-push-in-Some}
use Rattle.text80.proofs.update.ranges_of.Goals.{else-is_control+in-Ok}

pub returns-in-None-clause-fault : goal.returns-in-None-clause-fault
returns-in-None-clause-fault c =
    control_fault c.args.lines.now c.loop-i.ranges.items c.loop-i.least c.loop-i.i
    c.index-lines-i.result _ c.loop-i-test.true c.index-lines-i.is c.loop-i.invariant refl refl
    (sym c.is_control.ensures ∙ c.if-is_control.true) c.in-None.ensures.none

pub returns-in-Err-clause-fault : goal.returns-in-Err-clause-fault
returns-in-Err-clause-fault c =
    number_fault c.args.lines.now c.loop-i.ranges.items c.loop-i.least c.loop-i.i
    c.index-lines-i.result _ c.loop-i-test.true c.index-lines-i.is c.loop-i.invariant refl
    (sym c.is_control.ensures ∙ c.if-is_control.false) c.in-Err.ensures.fault

pub loop-i-preserved : goal.loop-i-preserved
loop-i-preserved c =
    elim c.if-is_control.branch [
      | then-is_control+in-Some+in_ok-push-in-Some w ↦
          rw (w.ranges-is, w.least-is) (split_control_at c.args.lines.now c.loop-i.ranges.items _ c.loop-i.least c.loop-i.i
          c.index-lines-i.result _ c.loop-i-test.true c.index-lines-i.is c.loop-i.invariant
          (sym c.is_control.ensures ∙ w.if-is_control.true) w.in-Some.ensures.some w.in_ok-push-in-Some.ensures.items)
      | else-is_control+in-Ok w ↦
          rw (w.ranges-is, w.least-is) (split_given_at c.args.lines.now c.loop-i.ranges.items c.loop-i.least c.loop-i.i _
          c.index-lines-i.result c.loop-i-test.true c.index-lines-i.is c.loop-i.invariant
          (sym c.is_control.ensures ∙ w.if-is_control.false) w.in-Ok.ensures.numbered.0 w.in-Ok.ensures.numbered.1
          w.in-Ok.ensures.from)
    ]

pub returns-clause-good : goal.returns-clause-good
returns-clause-good c =
    let sorted = IsNonDecreasingBy-from_sort (λ (r : Range). r.low) _
    (c.sort_unstable_by_key.ensures.sorted (λ (r : Range). r.low)
    (answers_always _ _ _ (λ f a r g h. search rules))) in
    good_from c.args.lines.now c.loop-i.ranges.items c.sort_unstable_by_key.new.self.items
    c.loop-i.least c.loop-i.i c.loop-i.invariant c.loop-i-test.false
    c.sort_unstable_by_key.ensures.permutation sorted
