-- The scope of an install, by the values of the code.
use Rattle.std.specs.Prelude.{◌≡◌, ◌+◌}
use Rattle.terms.specs.Types.{Global, Zone}
use Rattle.terms.specs.Lookups.{IsRising}
use Rattle.terms.specs.Choice.{counting, place}
use Rattle.sysmods.specs.Choices.{choice, number_in}
use Rattle.zones.specs.declared.scope.Scope.{Scope}

-- It is that of an install into this zone: its ++VERs are those that count for its candidates.
pub record IsScopeOf (g : Global) (zone : Zone) (scope : Scope) : Type 0 where
  pub global_is : scope.vers.now.global.now ≡ g
  pub zone_is : scope.zone.now ≡ zone
  pub rising : IsRising scope.ids.now
  pub srel_is : scope.vers.now.srel ≡ zone.srel
  pub choice_is : choice scope.vers.now ≡ counting g zone scope.ids.now
  pub numbers_are : number_in scope.vers.now ≡ (λ x. place g zone scope.ids.now x + 1)
