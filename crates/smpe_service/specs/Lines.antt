-- The lines of a RESTORE.
use Rattle.std.specs.Prelude.{◌≡◌, ◌↔◌, ◌++◌, List, Contains, find, map, if◌then◌else◌}
use Rattle.std.specs.Option.{option_map_or}
use Rattle.std.specs.Str.{bytes_eq}
use Rattle.terms.specs.Types.{Id, Global}
use Rattle.terms.specs.Lookups.{IsRising, is_in}
use Rattle.terms.specs.Restore.{Restoring}
use Rattle.machine.specs.Outcome.{Status, Restored, NotApplied, Failed, Line, StatusLine}
use Rattle.machine.specs.Receiving.{place_of}
use Rattle.machine.specs.Restoring.{HasRestoreStatus}
use Rattle.judge_system.specs.declared.failure.Failure.{Failure}
use Rattle.judge_system.specs.Views.{failure_view}
use Rattle.zones.specs.declared.candidates.Candidates.{Candidates}

-- the status of an id of the list
abbrev pub status_in : List Id → List (Id × Failure) → Id → Status
status_in kept failed x = if is_in kept x then Restored
    else option_map_or (λ f. Failed (failure_view f.1)) (find (λ f. bytes_eq f.0 x) failed) NotApplied

abbrev pub line_in : Global → List Id → List (Id × Failure) → Id → Line
line_in g kept failed x = StatusLine x (place_of g x) (status_in kept failed x)

-- a line for each id of the list
pub record AreRestoreLines (r : Restoring) (ids kept : List Id) (lines : List Line) : Type 0 where
  pub status : Id → Status
  pub lines_are : lines ≡ map (λ x. StatusLine x (place_of r.global x) (status x)) ids
  pub each : (x : Id) → Contains ids x → HasRestoreStatus r ids kept x (status x)

-- a line for each candidate and each id that is left out, by id
pub record AreListedLines (g : Global) (c : Candidates) (kept : List Id) (failed : List (Id × Failure))
    (lines : List Line) : Type 0
  where
    pub ids : List Id
    pub rising : IsRising ids
    pub members : (x : Id) → Contains ids x ↔ Contains (c.ids ++ map (λ p. p.0) c.left_out.items) x
    pub lines_are : lines ≡ map (line_in g kept failed) ids
