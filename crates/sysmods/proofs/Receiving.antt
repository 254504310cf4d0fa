-- RECEIVE of one SYSMOD.
use Rattle.std.proofs.Common.{◌≡◌, ◌<◌, ◌+◌, ◌^◌, Bool, true, false, [], List, length, refl, sym, ap, ap₂, ◌∙◌, Option}
use Rattle.std.proofs.Common.{None, Some, is_some, inl, inr, true≢false, get_or}
use Rattle.std.proofs.lemmas.Bool.{cases_lt}
use Rattle.std.specs.Ordering.{nat_cmp}
use Rattle.std.specs.Cmp.Lexicographic.{slice_cmp}
use Rattle.terms.specs.Types.{Hold, Sysmod, Global, a_global}
use Rattle.terms.specs.Rising.{with_item}
use Rattle.terms.specs.Lookups.{is_received}
use Rattle.terms.specs.Global.{IsGlobal, IsSysmod, AlreadyReceived, MakesLoop}
use Rattle.terms.specs.Global.{WrongRole, NoRoom, with_sysmod}
use Rattle.terms.specs.Global.{received, fits_roles, RolesFit}
use Rattle.terms.proofs.GlobalKept.{received_kept}
use Rattle.sysmods.specs.Lists.{with_holds}
use Rattle.sysmods.specs.declared.refused.Refused.{Refused}
use Rattle.sysmods.specs.declared.refused.Refused.TheVariants as why
use Rattle.sysmods.specs.Held.{found, zone_of}
use Rattle.sysmods.specs.Refused.{HasNoFault, IsRefused}
use Rattle.sysmods.proofs.Taken.{folded}

-- roles that cannot but fit fit
roles_stable : (g : Global) → ¬ (¬ RolesFit g) → RolesFit g
roles_stable g never i d below j e within = by (fits_roles g (get_or (get_or g.sysmods i d).vers j e)) refl
  where
    by : (b : Bool) → fits_roles g (get_or (get_or g.sysmods i d).vers j e) ≡ b
        → fits_roles g (get_or (get_or g.sysmods i d).vers j e) ≡ true
    by true f = f
    by false f = absurd (never (λ fit. true≢false (sym (fit i d below j e within) ∙ f)))

module _ (xs : List Sysmod) (hs : List Hold) (s : Sysmod) where
  -- faults do not look at holds
  pub no_fault : HasNoFault (zone_of xs) s → HasNoFault (a_global xs hs) s
  no_fault none AlreadyReceived = none AlreadyReceived
  no_fault none MakesLoop = none MakesLoop
  no_fault none WrongRole = none WrongRole
  no_fault none NoRoom = none NoRoom

  pub same_refusal : (e : Refused) → IsRefused (zone_of xs) s e → IsRefused (a_global xs hs) s e
  same_refusal why.AlreadyReceived by = by
  same_refusal why.MakesLoop by = by
  same_refusal why.WrongRole by = by
  same_refusal why.NoRoom by = by
  same_refusal why.Memory by = by

  -- where no fault applies it is new
  pub is_new : HasNoFault (a_global xs hs) s → found xs s.id ≡ None
  is_new none = by (found xs s.id) refl
    where
      by : (o : Option Sysmod) → found xs s.id ≡ o → found xs s.id ≡ None
      by None e = e
      by (Some r) e = absurd (none AlreadyReceived (ap is_some e))

-- the zone with it
pub taken : (g : Global) (s : Sysmod) (xs : List Sysmod) (hs : List Hold)
    → xs ≡ with_item (slice_cmp nat_cmp) (λ r. r.id) g.sysmods (record s { holds = [] })
    → hs ≡ with_holds g.holds s.holds → a_global xs hs ≡ received g s
taken g s xs hs xs_is hs_is = ap₂ a_global xs_is hs_is ∙ sym (folded s.holds (with_sysmod g s))

pub kept : (g : Global) (s : Sysmod) → IsGlobal g → IsSysmod s → HasNoFault g s → IsGlobal (received g s)
kept g s k formed none = received_kept g s (new (is_received g s.id) refl) k formed (none MakesLoop)
    (roles_stable (with_sysmod g s) (none WrongRole)) room
  where
    new : (b : Bool) → is_received g s.id ≡ b → is_received g s.id ≡ false
    new true e = absurd (none AlreadyReceived e)
    new false e = e

    room : length g.sysmods + 1 < 2 ^ 16
    room = elim (cases_lt (length g.sysmods + 1) (2 ^ 16)) [ inl less ↦ less | inr more ↦ absurd (none NoRoom more) ]
