-- SYSTEM holds on SYSMODs that another one supersedes: they hold that one too.
use Rattle.std.specs.Prelude.{◌≡◌, ◌&&◌, Bool, true, false, List, [], ◌∷◌, ◌++◌, Option, Some, None, IsTrue}
use Rattle.std.specs.List.{list_any}
use Rattle.terms.specs.Types.{Id, Ver, Hold, Sysmod}
use Rattle.terms.specs.Lookups.{is_in}
use Rattle.intake_read.specs.declared.items.WideHoldKind.{WideHoldKind}
use Rattle.intake_read.specs.declared.items.WideHoldKind.TheVariants.{Error, System, User, Fixcat}
use Rattle.intake_read.specs.declared.items.WideHold.{WideHold}
use Rattle.intake_holds.specs.Holds.{IsHold}

abbrev pub is_system_kind : Option WideHoldKind → Bool
is_system_kind None = false
is_system_kind (Some Error) = false
is_system_kind (Some System) = true
is_system_kind (Some User) = false
is_system_kind (Some Fixcat) = false

-- a SYSTEM hold on a SYSMOD that one of these ++VERs supersedes
abbrev pub is_passed_on : List Ver → WideHold → Bool
is_passed_on vers stated = is_system_kind stated.kind && list_any (λ v. is_in v.sup stated.id.items) vers

-- the hold of the file, but on the SYSMOD of this id, in which it is internal
pub record IsHoldOn (id : Id) (stated : WideHold) (hold : Hold) : Type 0 where
  pub same : IsHold stated (record hold { id = stated.id.items })
  pub id_is : hold.id ≡ id
  pub internal : IsTrue hold.internal

-- Such a hold becomes a hold of the SYSMOD, and any other one nothing here.
pub data HoldIsPassedOn (id : Id) (vers : List Ver) (stated : WideHold) : List Hold → Type 0 where
  IsPassed : is_passed_on vers stated ≡ true → (hold : Hold) → IsHoldOn id stated hold
      → HoldIsPassedOn id vers stated (hold ∷ [])
  IsNotPassed : is_passed_on vers stated ≡ false → HoldIsPassedOn id vers stated []

-- The SYSMOD gets what the hold becomes of it, after the others.
abbrev pub PassesOneOn : WideHold → Sysmod → Sysmod → Type 0
PassesOneOn stated old new = (one : List Hold) × (new ≡ record old { holds = old.holds ++ one })
    × HoldIsPassedOn old.id old.vers stated one

-- the holds of the file, one by one and in order
abbrev pub PassesOn : Id → List Ver → List WideHold → List Hold → Type 0
PassesOn id vers [] holds = holds ≡ []
PassesOn id vers (w ∷ ws) holds = (one more : List Hold) × (holds ≡ one ++ more) × HoldIsPassedOn id vers w one
    × PassesOn id vers ws more
