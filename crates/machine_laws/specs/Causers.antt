-- What the line of a failed id says about its causers.
use Rattle.std.specs.Prelude.{◌≢◌, ◌⊎◌, List, [], Option, Contains}
use Rattle.terms.specs.Types.{Id, Text, Global, Zone, Selection, Bypass, RestoreList}
use Rattle.terms.specs.Judging.{Judging}
use Rattle.terms.specs.Judged.{install_judging}
use Rattle.terms.specs.Restore.{restore_judging}
use Rattle.terms.specs.Failures.{HasBareNeed}
use Rattle.machine.specs.Installing.{Decision, IsDecision, AreInstallLines}
use Rattle.machine.specs.Restoring.{RestoresListed}
use Rattle.machine.specs.Outcome.{Failed, Failure, Line, StatusLine, Place}

-- The lines have one of this failure for the id.
abbrev pub HasFailedLine : List Line → Id → Failure → Type 0
HasFailedLine lines x f = (place : Place) × Contains lines (StatusLine x place (Failed f))

module _ (judging : Judging) (kept : List Id) where
  -- it failed a test itself, or has a need that no candidate serves
  abbrev pub IsCause : Id → Failure → Type 0
  IsCause x f = (f.tests ≢ []) ⊎ HasBareNeed judging kept x

  -- The failure names a causer, and each causer that it names has a failed line of its own that says a cause.
  pub record IsCaused (lines : List Line) (f : Failure) : Type 0 where
    pub some : f.causers ≢ []
    pub each : (y : Id) → Contains f.causers y → (h : Failure) × HasFailedLine lines y h × IsCause y h

-- This is true of each line of a failed id of an APPLY or ACCEPT.
abbrev pub InstallFailuresCaused : Type 0
InstallFailuresCaused =
    (g : Global) (zone : Zone) (related : Option Zone) (sel : Selection) (bypass : Bypass) (date : Text)
    (d : Decision) → IsDecision g zone related sel bypass date d → (lines : List Line) → AreInstallLines d sel lines
    → (x : Id) (f : Failure) → HasFailedLine lines x f
    → IsCaused (install_judging d.setting d.survivors) d.kept lines f

-- This is true of each line of a failed id of a RESTORE.
abbrev pub RestoreFailuresCaused : Type 0
RestoreFailuresCaused =
    (g : Global) (zone accepted : Zone) (what : RestoreList) (new : Zone) (lines : List Line)
    (is : RestoresListed g zone accepted what new lines) (x : Id) (f : Failure) → HasFailedLine lines x f
    → IsCaused (restore_judging is.setting is.ids) is.kept lines f
