use Rattle.std.proofs.Common.{ap, sym, subst, refl, length, arith, ◌∙◌, ◌++◌, [], Some, append-nil, append_assoc}
use Rattle.std.specs.Prelude.{◌↔◌, IsTrue}
use Rattle.std.proofs.lemmas.Option.{same_Some}
use Rattle.terms.specs.Types.{Sysmod, Id}
use Rattle.intake_holds.specs.Holds.{HoldBecomes, IsLeftOut, IsInternal}
use Rattle.intake_holds.proofs.Becoming.{become_next, become_whole, hold_put, system_carried}
use Rattle.intake_carry.proofs.sysmods.place_holds.Goals as goal

pub place_hold-requires : goal.place_hold-requires
place_hold-requires c = λ t.
    let is = rw c.in-Some.is at c.in_ok-carried.ensures.some in
    let k = (rw c.in-Some.is at c.in_ok-carried.ensures.internal).0 t in (
      system_carried c.in-Some.carried.kind c.hold-item.result.kind is.kind_is k.0,
      is.id_is ∙ sym (same_Some _ _ k.1) ∙ ap (λ (s : Sysmod). s.id) c.sysmod.view_is
          ∙ sym (ap (λ (s : Sysmod). s.id) c.loop-hold.invariant.same),
    )

pub loop-hold-init : goal.loop-hold-init
loop-hold-init c = record {
  same = refl;
  held = ([], sym (append-nil c.args.sysmod.now.holds), (refl, c.new-outside.ensures.items));
}

pub loop-hold-preserved-in_default : goal.loop-hold-preserved-in_default
loop-hold-preserved-in_default c =
    let at = c.loop-hold in
    record {
      same = at.invariant.same;
      held = (
        at.invariant.held.0,
        at.invariant.held.1,
        become_next (HoldBecomes (Some c.args.sysmod.now.id)) c.args.stated.now.holds.items at.invariant.held.0
            at.invariant.held.0 at.outside.items at.outside.items at.hold-index c.hold-item.result [] []
            (omega (arith, ap length c.deref-hold-items.ensures.value))
            (rw c.deref-hold-items.ensures.value at c.hold-item.is) (sym (append-nil at.invariant.held.0))
            (sym (append-nil at.outside.items)) (IsLeftOut (rw c.in_default.is at c.in_ok-carried.ensures.none))
            at.invariant.held.2,
      );
    }

pub loop-hold-preserved : goal.loop-hold-preserved
loop-hold-preserved c =
    let l = c.loop-hold in
    let stated = c.hold-item.result in
    let id = c.args.sysmod.now.id in
    let internal = rw c.in-Some.is at c.in_ok-carried.ensures.internal in
    let inside = l.invariant.held.0 in
    let put = hold_put (Some id) stated c.in-Some.carried l.sysmod c.place_hold.new.sysmod l.outside.items
    c.place_hold.new.outside.items (rw c.in-Some.is at c.in_ok-carried.ensures.some)
    (subst (λ (x : Id). IsTrue c.in-Some.carried.internal ↔ IsInternal (Some x) stated)
    (ap (λ (s : Sysmod). s.id) c.sysmod.view_is) internal)
    c.in_ok-place_hold.ensures.inside c.in_ok-place_hold.ensures.outside in
    record {
      same = put.5 ∙ ap (λ (s : Sysmod). record s { holds = c.place_hold.new.sysmod.holds }) l.invariant.same;
      held = (
        inside ++ put.0,
        put.2 ∙ ap (λ hs. hs ++ put.0) l.invariant.held.1 ∙ append_assoc c.args.sysmod.now.holds inside put.0,
        become_next (HoldBecomes (Some id)) c.args.stated.now.holds.items inside (inside ++ put.0) l.outside.items
            c.place_hold.new.outside.items l.hold-index stated put.0 put.1
            (omega (arith, ap length c.deref-hold-items.ensures.value))
            (rw c.deref-hold-items.ensures.value at c.hold-item.is) refl put.3 put.4 l.invariant.held.2,
      );
    }

pub returns-clause-held : goal.returns-clause-held
returns-clause-held c =
    let held = c.loop-hold.invariant.held in (
      held.0,
      held.1,
      become_whole (HoldBecomes (Some c.args.sysmod.now.id)) c.args.stated.now.holds.items held.0
          c.loop-hold.outside.items c.loop-hold.hold-index
          (omega (arith, ap length c.deref-hold-items.ensures.value)) held.2,
    )
