-- What RESTORE makes of a target zone, and what it prints of each id.
-- (IBM z/OS SMP/E Commands, RESTORE processing. The lines are this project's.)
use Rattle.std.specs.Prelude.{◌≡◌, ◌↔◌, List, [], Contains, map}
use Rattle.terms.specs.Types.{Id, Global, Zone, RestoreList}
use Rattle.terms.specs.Lookups.{IsRising}
use Rattle.terms.specs.Choice.{counting}
use Rattle.terms.specs.Restore.{Restoring, AreListed, restore_candidates, restore_judging, IsRestored, Restores}
use Rattle.machine.specs.Outcome.{Status, Restored, NotApplied, Failed, Failure, Line, StatusLine}
use Rattle.machine.specs.Receiving.{place_of}
use Rattle.machine.specs.Installing.{IsFailure}

-- The status of an id of the list: taken off, failed, or not applied.
pub data HasRestoreStatus (r : Restoring) (ids kept : List Id) (x : Id) : Status → Type 0 where
  IsBack : Contains kept x → HasRestoreStatus r ids kept x Restored
  StaysOn : (f : Failure) → Contains (restore_candidates r ids) x → (¬ Contains kept x)
      → IsFailure (restore_judging r ids) kept x f
      → HasRestoreStatus r ids kept x (Failed f)
  WasNotOn : Contains ids x → (¬ Contains (restore_candidates r ids) x) → HasRestoreStatus r ids kept x NotApplied

-- the new target zone and the lines, by id; CHECK gives the same lines
pub record RestoresListed (g : Global) (zone accepted : Zone) (what : RestoreList) (new : Zone) (lines : List Line) :
    Type 0 where
  pub setting : Restoring
  pub setting_is : setting ≡ record { global = g; choice = counting g zone []; zone = zone; accepted = accepted }
  pub ids : List Id
  pub listed : AreListed setting what ids
  pub kept : List Id
  pub rising : IsRising kept
  pub members : (x : Id) → Contains kept x ↔ IsRestored setting ids x
  pub restores : Restores setting kept new
  pub status : Id → Status
  pub lines_are : lines ≡ map (λ x. StatusLine x (place_of g x) (status x)) ids
  pub each : (x : Id) → Contains ids x → HasRestoreStatus setting ids kept x (status x)
