use Rattle.std.proofs.Common.{[], ◌∷◌, Some, ap, length, subst, sym, refl, arith, append-nil}
use Rattle.std.specs.Prelude.{◌↔◌, IsTrue}
use Rattle.mcs.specs.declared.hold_item.HoldItem.TheVariants.{Hold}
use Rattle.intake_holds.specs.Holds.{LeftHoldBecomes, IsInternal, IsFixcat, IsLeft, left_at}
use Rattle.intake_holds.proofs.Becoming.{become_next, become_whole, not_inside}
use Rattle.intake_carry.proofs.left_out.carry_left_out_holds.Goals as goal

pub loop-hold-preserved-in_default : goal.loop-hold-preserved-in_default
loop-hold-preserved-in_default c =
    let l = c.loop-hold in
    become_next (LeftHoldBecomes c.args.stated.now.id.items) c.args.stated.now.holds.items [] [] l.outside.items
    l.outside.items l.hold-index c.hold-item.result [] [] (omega (arith, ap length c.deref-hold-items.ensures.value))
    (rw c.deref-hold-items.ensures.value at c.hold-item.is) refl (sym (append-nil l.outside.items))
    (IsFixcat (rw c.in_default.is at c.in_ok-carried.ensures.none)) l.invariant

pub loop-hold-preserved : goal.loop-hold-preserved
loop-hold-preserved c =
    let l = c.loop-hold in
    let stated = c.hold-item.result in
    let hold = c.in-Some.carried in
    let internal = rw c.in-Some.is at c.in_ok-carried.ensures.internal in
    let was = c.is_internal_in-was_internal.result in
    become_next (LeftHoldBecomes c.args.stated.now.id.items) c.args.stated.now.holds.items [] [] l.outside.items
    c.push.new.self.items l.hold-index stated [] (left_at stated.place (Hold hold) was ∷ [])
    (omega (arith, ap length c.deref-hold-items.ensures.value))
    (rw c.deref-hold-items.ensures.value at c.hold-item.is) refl c.in_ok-push.ensures.items
    (IsLeft hold (rw c.in-Some.is at c.in_ok-carried.ensures.some) (not_inside hold stated internal) was
    (subst (λ id. IsTrue was ↔ IsInternal (Some id) stated) c.as_slice.ensures.value
    c.is_internal_in-was_internal.ensures))
    l.invariant

pub returns : goal.returns
returns c =
    become_whole (LeftHoldBecomes c.args.stated.now.id.items) c.args.stated.now.holds.items [] c.loop-hold.outside.items
    c.loop-hold.hold-index (omega (arith, ap length c.deref-hold-items.ensures.value)) c.loop-hold.invariant
