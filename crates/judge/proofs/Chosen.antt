-- The setting of a command, from the choice that the code makes.
use Rattle.std.proofs.Common.{◌≡◌, List, Option, ap₂}
use Rattle.terms.specs.Types.{Id, Global, Zone, Bypass}
use Rattle.terms.specs.Choice.{Choice, counting}
use Rattle.terms.specs.Tests.{Setting}
use Rattle.terms.specs.Judged.{setting}

module _ (zone : Zone) (related : Option Zone) (ids : List Id) (b : Bypass) where
  abbrev pub setting_by : Global → Choice → Setting
  setting_by g c = record { global = g; choice = c; zone = zone; related = related; cands = ids; bypass = b }

  pub same_setting : (g h : Global) (c : Choice) → h ≡ g → c ≡ counting g zone ids
      → setting_by h c ≡ setting g zone related ids b
  same_setting g h c global chosen = ap₂ setting_by global chosen
