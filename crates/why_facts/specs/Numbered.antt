-- ++VERs with their numbers, by the values of the code.
use Rattle.std.specs.Prelude.{List}
use Rattle.terms.specs.Types.{Id, Ver}
use Rattle.terms.specs.Lookups.{is_in}
use Rattle.terms.specs.Choice.{fits}
use Rattle.sysmods.specs.Choices.{number_in}
use Rattle.zones.specs.declared.scope.Scope.{Scope}
use Rattle.report.specs.Facts.{Fact, numbered_facts}

-- the facts of these ++VERs, numbered from 1 on
abbrev pub numbered : Scope → Id → List Ver → List Fact
numbered scope x vs =
    numbered_facts (fits scope.zone.now (is_in scope.ids.now)) (number_in scope.vers.now x) 1 vs
