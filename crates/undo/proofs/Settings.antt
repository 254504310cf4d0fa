-- A restore by the ++VERs that are known to count.
use Rattle.std.proofs.Common.{◌≡◌, [], ap₂}
use Rattle.terms.specs.Types.{Global, Zone}
use Rattle.terms.specs.Choice.{Choice, counting}
use Rattle.terms.specs.Restore.{Restoring}
use Rattle.sysmods.specs.declared.ver_choice.VerChoice.{VerChoice}
use Rattle.sysmods.specs.Choices.{choice}
use Rattle.undo.specs.Scopes.{restoring, restoring_from}

pub restoring_is : (vers : VerChoice) (g : Global) (zone accepted : Zone) → vers.global.now ≡ g
    → choice vers ≡ counting g zone [] → restoring vers zone accepted ≡ restoring_from g zone accepted
restoring_is vers g zone accepted global counts =
    ap₂ {A = Global} {B = Choice} {C = Restoring}
    (λ h c. record { global = h; choice = c; zone = zone; accepted = accepted }) global counts
