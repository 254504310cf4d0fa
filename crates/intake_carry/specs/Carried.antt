-- What becomes of the statements of files: the items of PTFIN and of the hold file, in order.
use Rattle.std.specs.Prelude.{◌≡◌, ◌&&◌, not, Bool, false, List, [], ◌∷◌, ◌++◌, map, Option, Some, None, IfSome}
use Rattle.std.specs.List.{filter, flat_map, list_any}
use Rattle.terms.specs.Types as terms
use Rattle.terms.specs.Global.{has_key}
use Rattle.mcs.specs.declared.file.Item.{Item}
use Rattle.mcs.specs.declared.file.Item.TheVariants.{Sysmod, Assign}
use Rattle.mcs.specs.declared.hold_item.HoldItem.{HoldItem}
use Rattle.mcs.specs.declared.hold_item.HoldItem.TheVariants.{Hold, Release}
use Rattle.intake_read.specs.declared.items.WideSysmod.{WideSysmod}
use Rattle.intake_read.specs.declared.items.WideHold.{WideHold}
use Rattle.intake_read.specs.declared.items.WideFile.{WideFile}
use Rattle.intake_sysmod.specs.NoLooser.{IsNoLooser}
use Rattle.intake_sysmod.specs.Users.{run_of}
use Rattle.intake_holds.specs.declared.placed.PlacedItem.{PlacedItem}
use Rattle.intake_holds.specs.Become.{Become}
use Rattle.intake_holds.specs.Holds.{HoldBecomes, LeftHoldBecomes, ReleaseBecomes, AreInOrder}
use Rattle.intake_carry.specs.PassedOn.{PassesOn}

-- the item that a SYSMOD is, if it is carried
abbrev pub item_in : Option terms.Sysmod → List Item
item_in None = []
item_in (Some s) = Sysmod s ∷ []

-- the holds of an item of PTFIN, all of them internal
abbrev pub holds_of : Item → List terms.Hold
holds_of (Sysmod s) = s.holds
holds_of (Assign a) = []

-- What the holds of a SYSMOD become: those of one that is left out are outside, and those of one that is carried are
-- outside unless they are internal. A SYSMOD has its internal holds, and before them, as holds of its own, the SYSTEM
-- holds on SYSMODs that it supersedes.
abbrev pub HoldsBecome : WideSysmod → Option terms.Sysmod → List PlacedItem → Type 0
HoldsBecome stated None outside = Become (LeftHoldBecomes stated.id.items) stated.holds.items [] outside
HoldsBecome stated (Some s) outside = (passed inside : List terms.Hold) × (s.holds ≡ passed ++ inside)
    × PassesOn s.id s.vers stated.holds.items passed
    × Become (HoldBecomes (Some s.id)) stated.holds.items inside outside

-- A SYSMOD is left out, or it becomes one that is no looser, with its internal holds. Its other holds are outside. The
-- run is all SYSMODs of the files.
pub record SysmodBecomes (decide : Bool) (run : List WideSysmod) (stated : WideSysmod) (items : List Item)
    (outside : List PlacedItem) : Type 0 where
  pub sysmod : Option terms.Sysmod
  pub items_are : items ≡ item_in sysmod
  pub no_looser : IfSome sysmod (IsNoLooser decide run stated)
  pub held : HoldsBecome stated sysmod outside

-- what a file becomes: its SYSMODs, and outside of them the holds of these, and releases
pub record FileBecomes (decide : Bool) (run : List WideSysmod) (stated : WideFile) (items : List Item)
    (outside : List PlacedItem) : Type 0 where
  pub of_sysmods : List PlacedItem
  pub releases : List PlacedItem
  pub outside_are : outside ≡ of_sysmods ++ releases
  pub sysmods_become : Become (SysmodBecomes decide run) stated.sysmods.items items of_sysmods
  pub releases_become : Become ReleaseBecomes stated.releases.items [] releases

-- A SYSMOD of PTFIN has a hold of this key: its id, its kind and its reason.
abbrev pub is_held : List Item → HoldItem → Bool
is_held items (Hold h) = list_any (has_key h.id h.kind h.reason) (flat_map holds_of items)
is_held items (Release r) = false

-- The hold was internal in a copy of a SYSMOD that is left out, and the copy that is carried has one of its key.
abbrev pub is_held_by_copy : List Item → PlacedItem → Bool
is_held_by_copy items p = p.was_internal && is_held items p.item

-- PTFIN has what the SYSMODs of the files become, in their order, and then assignments. The hold file has the holds and
-- releases that are outside SYSMODs, in the order of their statements, but no hold of a copy that is left out if the
-- copy that is carried has one of the same key. `holds` are the holds of the files that are in no SYSMOD, which are not
-- kept with the files.
pub record FilesBecome (decide : Bool) (files : List WideFile) (holds : List WideHold) (items : List Item)
    (hold_items : List HoldItem) : Type 0 where
  pub sysmods : List Item
  pub assigns : List terms.Assign
  pub outside : List PlacedItem
  pub held : List PlacedItem
  pub items_are : items ≡ sysmods ++ map Assign assigns
  pub become : Become (FileBecomes decide (run_of files)) files sysmods outside
  pub holds_become : Become (HoldBecomes None) holds [] held
  pub in_order : AreInOrder (filter (λ p. not (is_held_by_copy sysmods p)) outside ++ held) hold_items
