-- Where holds begin that a reader hands out.
use Rattle.std.specs.Prelude.{Bool, true, false, not, List, map, filter, Option, Some, None}
use Rattle.intake_cards.specs.declared.place.CardPlace.{CardPlace}
use Rattle.intake_read.specs.declared.items.WideHoldKind.{WideHoldKind}
use Rattle.intake_read.specs.declared.items.WideHoldKind.TheVariants.{Error, System, User, Fixcat}
use Rattle.intake_read.specs.declared.items.WideHold.{WideHold}

abbrev pub is_fixcat_kind : Option WideHoldKind → Bool
is_fixcat_kind None = false
is_fixcat_kind (Some Error) = false
is_fixcat_kind (Some System) = false
is_fixcat_kind (Some User) = false
is_fixcat_kind (Some Fixcat) = true

abbrev pub is_fixcat : WideHold → Bool
is_fixcat hold = is_fixcat_kind hold.kind

-- the places of the holds that are not of FIXCAT, in order
abbrev pub held_places : List WideHold → List CardPlace
held_places holds = map (λ h. h.place) (filter (λ h. not (is_fixcat h)) holds)
