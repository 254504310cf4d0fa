use Rattle.std.proofs.Common.{◌≡◌, sym, ap, ap₂, subst, is_some}
use Rattle.std.specs.Prelude.{All, IfSome}
use Rattle.terms.specs.Types.{a_global}
use Rattle.terms.specs.Global.{IsGlobal}
use Rattle.terms.proofs.GlobalKept.{IsOwned}
use Rattle.sysmods.specs.Held.{zone_of}
use Rattle.sysmods.proofs.Fronts.{global_holds}
use Rattle.sysmods.proofs.global_zone.GlobalZone.from_parts.Goals as goal
use Rattle.sysmods.proofs.global_zone.GlobalZone.from_parts.Goals.{In-Some-2}

sysmods_are : (c : In-Some-2) → c.in-Some.sysmods ≡ c.args.sysmods.items
sysmods_are c = subst (λ o. IfSome o (λ xs. xs ≡ c.args.sysmods.items)) c.in-Some.is c.in_ok-sysmods.ensures.some

holds_are : (c : In-Some-2) → c.in-Some-2.holds ≡ c.args.holds.items
holds_are c = subst (λ o. IfSome o (λ hs. hs ≡ c.args.holds.items)) c.in-Some-2.is c.in_ok-holds.ensures.some

good : (c : In-Some-2) → IsGlobal (a_global c.args.sysmods.items c.args.holds.items)
good c =
    global_holds c.args.sysmods.items c.args.holds.items (c.in_ok-sysmods.ensures.none.0 (ap is_some c.in-Some.is))
    (c.in_ok-holds.ensures.none.0 (ap is_some c.in-Some-2.is))
    (subst (λ xs. All (IsOwned (zone_of xs)) c.args.holds.items) (sysmods_are c)
    (subst (All (IsOwned (zone_of c.in-Some.sysmods))) c.as_slice.ensures.value
    (c.have_owners_if_internal.ensures.0 c.if-not-have_owners_if_internal.false)))

pub invariant_of-result : goal.invariant_of-result
invariant_of-result c =
    subst IsGlobal (sym (ap₂ a_global (sysmods_are (goal.at.invariant_of-result c).In-Some-2)
    (holds_are (goal.at.invariant_of-result c).In-Some-2)))
    (good (goal.at.invariant_of-result c).In-Some-2)

pub returns : goal.returns
returns c = (
  good (goal.at.returns c).In-Some-2,
  ap₂ a_global (sysmods_are (goal.at.returns c).In-Some-2)
      (holds_are (goal.at.returns c).In-Some-2),
)
