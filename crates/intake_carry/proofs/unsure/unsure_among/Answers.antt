use Rattle.std.proofs.Common.{map, take, arith}
use Rattle.terms.proofs.BesideLists.{all_next, all_through}
use Rattle.intake_carry.specs.Unsure.{IsNamed}
use Rattle.intake_carry.proofs.UnsureNames.{named_still}
use Rattle.intake_carry.proofs.unsure.unsure_among.Goals as goal

pub loop-item-preserved : goal.loop-item-preserved
loop-item-preserved c =
    let at = c.loop-item in
    let left = map (λ s. s.now) c.args.doubts.now.left.now in
    let new = c.push_if_unsure.new.unsure.items in
    all_next (IsNamed left new) c.args.items.now at.item-index c.item-item.result (omega arith) c.item-item.is
    c.in_ok-push_if_unsure.ensures.named
    (named_still left at.unsure.items new (take at.item-index c.args.items.now) c.in_ok-push_if_unsure.ensures.kept
    at.invariant)

pub returns : goal.returns
returns c =
    all_through (IsNamed (map (λ s. s.now) c.args.doubts.now.left.now) c.loop-item.unsure.items) c.args.items.now
    c.loop-item.item-index (omega arith) c.loop-item.invariant
