use Rattle.std.proofs.Common.{◌<◌, ap, length, take, arith, ◌∙◌, inl, inr}
use Rattle.terms.proofs.BesideLists.{all_next, all_through}
use Rattle.terms.specs.Types.{Sysmod}
use Rattle.intake_sysmod.specs.NoLooser.{IsElementDone}
use Rattle.intake_sysmod.proofs.Changed.{done_after}
use Rattle.intake_sysmod.proofs.Quantified.{contains_here}
use Rattle.intake_sysmod.proofs.changes.add_elements.Goals as goal

pub loop-element-preserved-then-branch : goal.loop-element-preserved-then-branch
loop-element-preserved-then-branch c =
    let at = c.loop-element in
    let stated = c.args.stated.now in
    record {
      rest = at.invariant.rest;
      done = λ t.
          all_next (IsElementDone c.args.options.now.decide c.args.users.now stated at.sysmod.changes)
          stated.elements.items at.element-index c.element-item.result
          (omega (arith, ap length c.deref-element-items.ensures.value))
          (rw c.deref-element-items.ensures.value at c.element-item.is)
          (inr (c.in_ok-is_passed_over.ensures c.if-branch.true)) (at.invariant.done t);
      said = at.invariant.said;
    }

pub loop-element-preserved : goal.loop-element-preserved
loop-element-preserved c =
    let at = c.loop-element in
    let new = c.add_element.new.sysmod.changes in
    let stated = c.args.stated.now in
    let decide = c.args.options.now.decide in
    let all_items = stated.elements.items in
    let below : at.element-index < length all_items = omega (arith, ap length c.deref-element-items.ensures.value) in
    let is = rw c.deref-element-items.ensures.value at c.element-item.is in
    record {
      rest = c.in_ok-added.ensures.grows.rest ∙ ap (λ (s : Sysmod). record s { changes = new }) at.invariant.rest;
      done = λ t.
          let b = c.are_both-added_all.ensures t in
          all_next (IsElementDone decide c.args.users.now stated new) all_items at.element-index
          c.element-item.result below is (inl (c.in_ok-added.ensures.changed b.1))
          (done_after decide c.args.users.now stated at.sysmod.changes new (take at.element-index all_items)
          c.in_ok-added.ensures.grows.kept (at.invariant.done b.0));
      said = λ all.
          c.in_ok-added.ensures.grows.said all_items
          (contains_here all_items at.element-index c.element-item.result below is) (at.invariant.said all);
    }

pub returns-clause-done : goal.returns-clause-done
returns-clause-done c = λ t.
    all_through (IsElementDone c.args.options.now.decide c.args.users.now c.args.stated.now
    c.loop-element.sysmod.changes)
    c.args.stated.now.elements.items c.loop-element.element-index
    (omega (arith, ap length c.deref-element-items.ensures.value)) (c.loop-element.invariant.done t)
