-- The setting of an install, by the values of the code.
use Rattle.std.specs.Prelude.{Option, None}
use Rattle.terms.specs.Types.{Global, Zone}
use Rattle.terms.specs.Choice.{Choice}
use Rattle.terms.specs.Tests.{Setting}
use Rattle.sysmods.specs.Choices.{choice}
use Rattle.zones.specs.declared.scope.Scope.{Scope}

abbrev pub global_of : Scope → Global
global_of scope = scope.vers.now.global.now

-- the ++VER of each SYSMOD that counts
abbrev pub choice_of : Scope → Choice
choice_of scope = choice scope.vers.now

-- the setting, with this related zone
abbrev pub setting_with : Scope → Option Zone → Setting
setting_with scope related = record {
  global = global_of scope;
  choice = choice_of scope;
  zone = scope.zone.now;
  related = related;
  cands = scope.ids.now;
  bypass = scope.bypass.now;
}

-- the setting without a related zone; no need depends on one
abbrev pub setting_of : Scope → Setting
setting_of scope = setting_with scope None
