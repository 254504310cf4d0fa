-- The zone that an ACCEPT looks at besides, as it is found.
use Rattle.std.proofs.Common.{◌≡◌, ◌∙◌, List, Option, None, Some, map, sym, ap}
use Rattle.std.specs.Option.{option_and_then}
use Rattle.terms.specs.Types.{Text, Global, Zone}
use Rattle.store_schema.specs.Inventory.{Inventory}
use Rattle.store_zones.specs.declared.head.ZoneHead.{ZoneHead}
use Rattle.store_zones.specs.Found.{zone_in, head_of}
use Rattle.smpe_why.specs.Telling.{IsFoundIn, related_target_name, related_in}

module _ (i : Inventory) (name : Text) (zone : Option Zone) (heads : List ZoneHead) (global : Global)
    (global_is : global ≡ i.global) (zone_is : zone ≡ zone_in i name) (are : heads ≡ map head_of i.zones) where
  related_is : (target : Option Text) → related_target_name heads name zone ≡ target
      → option_and_then (zone_in i) target ≡ related_in i name
  related_is target is =
      ap (option_and_then (zone_in i)) (sym is ∙ ap (λ hs. related_target_name hs name zone) are
      ∙ ap (related_target_name (map head_of i.zones) name) zone_is)

  -- there is none
  pub found_none : None ≡ related_target_name heads name zone
      → IsFoundIn name i (record { global = global; zone = zone; related = None })
  found_none is = record { global = global_is; zone = zone_is; related = related_is None (sym is) }

  -- it was loaded
  pub found_some : (related : Option Zone) (target : Text) → related_target_name heads name zone ≡ Some target
      → related ≡ zone_in i target → IsFoundIn name i (record { global = global; zone = zone; related = related })
  found_some related target is loaded = record {
    global = global_is;
    zone = zone_is;
    related = loaded ∙ related_is (Some target) is;
  }
