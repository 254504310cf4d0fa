use Rattle.std.proofs.Common.{arith, take, ap, length, subst}
use Rattle.std.specs.Prelude.{All}
use Rattle.terms.proofs.BesideLists.{all_next, all_through}
use Rattle.intake_sysmod.specs.Users.{IsUser}
use Rattle.intake_sysmod.proofs.Using.{grow_then, IsElementKnown, element_known, elements_still, sysmod_known}
use Rattle.intake_sysmod.proofs.element_users.add_users_of_sysmod.Goals as goal

pub loop-element-preserved : goal.loop-element-preserved
loop-element-preserved c =
    let id = c.args.stated.now.id.items in
    let new = c.add_user_of_keys.new.users in
    let known = element_known new id c.element-item.result c.in_ok-keys.keys.items c.in_ok-keys.ensures
    (subst (λ l. All (λ k. IsUser new k id) l) c.as_slice.ensures.value
    (subst (λ t. All (λ k. IsUser new k t) c.as_slice.result.now) c.as_slice-id.ensures.value
    c.in_ok-add_user_of_keys.ensures.has)) in
    record {
      has = all_next (IsElementKnown new id) c.args.stated.now.elements.items c.loop-element.element-index
          c.element-item.result (omega (arith, ap length c.deref-element-items.ensures.value))
          (rw c.deref-element-items.ensures.value at c.element-item.is) known
          (elements_still c.loop-element.users new id
          (take c.loop-element.element-index c.args.stated.now.elements.items) c.in_ok-add_user_of_keys.ensures.grows
          c.loop-element.invariant.has);
      grows = grow_then c.args.users.now c.loop-element.users new c.loop-element.invariant.grows
          c.in_ok-add_user_of_keys.ensures.grows;
    }

pub returns-clause-has : goal.returns-clause-has
returns-clause-has c =
    sysmod_known c.loop-element.users c.args.stated.now
    (all_through (IsElementKnown c.loop-element.users c.args.stated.now.id.items) c.args.stated.now.elements.items
    c.loop-element.element-index (omega (arith, ap length c.deref-element-items.ensures.value))
    c.loop-element.invariant.has)
