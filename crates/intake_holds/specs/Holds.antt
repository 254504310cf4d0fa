-- What the holds and releases of a file become. Their operands are those of ++HOLD and ++RELEASE in IBM z/OS SMP/E
-- Reference, "SMP/E modification control statements"; FIXCAT holds hold nothing unless a command asks for them.
use Rattle.std.specs.Prelude.{◌≡◌, ◌↔◌, ℕ, Bool, false, List, [], ◌∷◌, Option, Some, IsTrue, IsFalse, Vec, map}
use Rattle.std.specs.Prelude.{IsPermutation}
use Rattle.std.specs.List.Sorted.{IsSortedByKey}
use Rattle.std.specs.declared.alloc.Global.{Global}
use Rattle.std.specs.declared.cmp.Ordering.{Ordering}
use Rattle.std.specs.Ordering.{nat_cmp, ordering_then}
use Rattle.terms.specs.declared.kinds.HoldKind.{HoldKind}
use Rattle.terms.specs.declared.kinds.HoldKind.TheVariants as kind
use Rattle.terms.specs.Types as terms
use Rattle.terms.specs.Types.{Text, Id}
use Rattle.terms.specs.Forms.{IsClass, IsDate}
use Rattle.intake_cards.specs.declared.place.CardPlace.{CardPlace}
use Rattle.intake_read.specs.declared.items.WideHoldKind.{WideHoldKind}
use Rattle.intake_read.specs.declared.items.WideHoldKind.TheVariants.{Error, System, User, Fixcat}
use Rattle.intake_read.specs.declared.items.WideHold.{WideHold}
use Rattle.intake_read.specs.declared.items.WideRelease.{WideRelease}
use Rattle.mcs.specs.declared.hold_item.HoldItem.{HoldItem}
use Rattle.mcs.specs.declared.hold_item.HoldItem.TheVariants.{Hold, Release}
use Rattle.intake_read.specs.Stated.{text_in}
use Rattle.intake_holds.specs.declared.placed.PlacedItem.{PlacedItem}

abbrev pub wide_kind : HoldKind → WideHoldKind
wide_kind kind.Error = Error
wide_kind kind.System = System
wide_kind kind.User = User

-- what tells a hold from others, and its FMID
pub record IsKey (id : Text) (kind : Option WideHoldKind) (reason fmid : Option (Vec ℕ Global)) (key : terms.Release) :
    Type 0 where
  pub id_is : key.id ≡ id
  pub kind_is : kind ≡ Some (wide_kind key.kind)
  pub reason_is : text_in reason ≡ Some key.reason
  pub fmid_is : text_in fmid ≡ Some key.fmid

-- the key of the hold of the file
abbrev pub IsHoldKey : WideHold → terms.Release → Type 0
IsHoldKey stated key = IsKey stated.id.items stated.kind stated.reason stated.fmid key

-- the release of the file
abbrev pub IsRelease : WideRelease → terms.Release → Type 0
IsRelease stated key = IsKey stated.id.items stated.kind stated.reason stated.fmid key

-- the value that is stated, where it has the form
pub record IsFormed (Form : Text → Type 0) (stated carried : Option Text) : Type 0 where
  pub kept : (t : Text) → stated ≡ Some t → Form t → carried ≡ Some t
  pub said : (t : Text) → carried ≡ Some t → stated ≡ Some t

-- the hold of the file: all of it that is asked for
pub record IsHold (stated : WideHold) (carried : terms.Hold) : Type 0 where
  pub id_is : carried.id ≡ stated.id.items
  pub kind_is : stated.kind ≡ Some (wide_kind carried.kind)
  pub reason_is : text_in stated.reason ≡ Some carried.reason
  pub fmid_is : text_in stated.fmid ≡ Some carried.fmid
  pub class_is : IsFormed IsClass (text_in stated.class) carried.class
  pub date_is : IsFormed IsDate (text_in stated.date) carried.date

-- by file, and then by card
abbrev pub place_cmp : CardPlace → CardPlace → Ordering
place_cmp a b = ordering_then (nat_cmp a.file b.file) (nat_cmp a.card b.card)

-- an item of the hold file, whose statement begins there
abbrev pub placed_at : CardPlace → HoldItem → PlacedItem
placed_at place item = record { place = place; item = item; was_internal = false }

-- the hold of a SYSMOD that is left out, which begins there: it is outside now, internal or not where it stood
abbrev pub left_at : CardPlace → HoldItem → Bool → PlacedItem
left_at place item was_internal = record { place = place; item = item; was_internal = was_internal }

-- The hold is internal: a SYSTEM hold on the SYSMOD that it is in, which has this id. Outside of SYSMODs there is none.
abbrev pub IsInternal : Option Id → WideHold → Type 0
IsInternal own stated = (stated.kind ≡ Some System) × (own ≡ Some stated.id.items)

-- A FIXCAT hold becomes nothing, an internal hold one of its SYSMOD, and any other one an item of the hold file.
pub data HoldBecomes (own : Option Id) (stated : WideHold) : List terms.Hold → List PlacedItem → Type 0 where
  IsLeftOut : stated.kind ≡ Some Fixcat → HoldBecomes own stated [] []
  IsInside : (hold : terms.Hold) → IsHold stated hold → IsTrue hold.internal → IsInternal own stated
      → HoldBecomes own stated (hold ∷ []) []
  IsOutside : (hold : terms.Hold) → IsHold stated hold → IsFalse hold.internal → (¬ IsInternal own stated)
      → HoldBecomes own stated [] (placed_at stated.place (Hold hold) ∷ [])

-- The same of a hold in a SYSMOD of this id that is left out: it is outside, and it is known whether it was internal.
pub data LeftHoldBecomes (id : Text) (stated : WideHold) : List terms.Hold → List PlacedItem → Type 0 where
  IsFixcat : stated.kind ≡ Some Fixcat → LeftHoldBecomes id stated [] []
  IsLeft : (hold : terms.Hold) → IsHold stated hold → IsFalse hold.internal → (was_internal : Bool)
      → IsTrue was_internal ↔ IsInternal (Some id) stated
      → LeftHoldBecomes id stated [] (left_at stated.place (Hold hold) was_internal ∷ [])

-- A FIXCAT release becomes nothing, and any other one an item of the hold file.
pub data ReleaseBecomes (stated : WideRelease) : List terms.Hold → List PlacedItem → Type 0 where
  IsNoRelease : stated.kind ≡ Some Fixcat → ReleaseBecomes stated [] []
  IsReleased : (release : terms.Release) → IsRelease stated release
      → ReleaseBecomes stated [] (placed_at stated.place (Release release) ∷ [])

-- the items by the places of their statements, from the first file to the last
pub record AreInOrder (placed : List PlacedItem) (items : List HoldItem) : Type 0 where
  pub ordered : List PlacedItem
  pub same : IsPermutation placed ordered
  pub rising : IsSortedByKey (λ p. p.place) place_cmp ordered
  pub items_are : items ≡ map (λ p. p.item) ordered
