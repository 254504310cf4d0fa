-- What files state, and what of it is carried.
use Rattle.std.specs.Prelude.{◌≡◌, Bool, true, false, List, length}
use Rattle.std.specs.List.{filter, flat_map}
use Rattle.mcs.specs.declared.file.Item.{Item}
use Rattle.mcs.specs.declared.file.Item.TheVariants.{Sysmod, Assign}
use Rattle.mcs.specs.declared.hold_item.HoldItem.{HoldItem}
use Rattle.intake_cards.specs.declared.place.CardPlace.{CardPlace}
use Rattle.intake_read.specs.Held.{held_places}
use Rattle.intake_read.specs.declared.items.WideFile.{WideFile}
use Rattle.intake_read.specs.declared.items.WideHold.{WideHold}
use Rattle.intake_holds.specs.Outside.{AreCarried}
use Rattle.intake_holds.specs.declared.outside.OutsideHolds.{OutsideHolds}
use Rattle.intake_sysmod.specs.Users.{run_of}
use Rattle.intake_carry.specs.Carried.{FilesBecome}

-- where the holds of the files begin that are in no SYSMOD, but for those of FIXCAT
abbrev pub held_in : List WideFile → List CardPlace
held_in files = flat_map (λ f. f.held.items) files

-- It is what the holds of the files become that are in no SYSMOD: some holds, which begin just where the files say.
abbrev pub HasHoldsOf : List WideFile → OutsideHolds → Type 0
HasHoldsOf files held = (holds : List WideHold) × (held_places holds ≡ held_in files) × AreCarried holds held

-- These items of PTFIN and of the hold file are what the statements of the files become. `holds` are the holds outside
-- SYSMODs that the readers of the files handed out, in order.
abbrev pub CarriesFiles : Bool → List WideFile → List Item → List HoldItem → Type 0
CarriesFiles decide files items hold_items = (holds : List WideHold) × (held_places holds ≡ held_in files)
    × FilesBecome decide files holds items hold_items

abbrev pub is_sysmod : Item → Bool
is_sysmod (Sysmod s) = true
is_sysmod (Assign a) = false

-- There are as many SYSMODs as the files state. As each of these becomes at most one, each is carried.
abbrev pub HasEachSysmod : List WideFile → List Item → Type 0
HasEachSysmod files items = length (filter is_sysmod items) ≡ length (run_of files)
