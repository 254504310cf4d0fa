-- What RESTORE looks at, by the values of the code.
use Rattle.std.specs.Prelude.{List, [], not, filter}
use Rattle.terms.specs.Types.{Id, Global, Zone}
use Rattle.terms.specs.Choice.{counting}
use Rattle.terms.specs.Lookups.{is_supplied, applied_ids}
use Rattle.terms.specs.Restore.{Restoring}
use Rattle.sysmods.specs.declared.ver_choice.VerChoice.{VerChoice}
use Rattle.sysmods.specs.Choices.{choice}
use Rattle.undo.specs.declared.scope.RestoreScope.{RestoreScope}

-- A restore of the target zone from its distribution zone. No candidate can be installed, so none affects which ++VERs
-- count.
abbrev pub restoring_from : Global → Zone → Zone → Restoring
restoring_from g zone accepted =
    record { global = g; choice = counting g zone []; zone = zone; accepted = accepted }

-- the same, with the ++VERs that are known to count
abbrev pub restoring : VerChoice → Zone → Zone → Restoring
restoring vers zone accepted =
    record { global = vers.global.now; choice = choice vers; zone = zone; accepted = accepted }

abbrev pub restoring_of : RestoreScope → Restoring
restoring_of scope = restoring scope.vers.now scope.zone.now scope.accepted.now

-- the applied SYSMODs that the distribution zone does not supply
abbrev pub unaccepted : Restoring → List Id
unaccepted r = filter (λ y. not (is_supplied r.accepted y)) (applied_ids r.zone)
