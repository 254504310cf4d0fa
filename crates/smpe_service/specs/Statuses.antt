-- The statuses of ids, before they become lines.
use Rattle.std.specs.Prelude.{◌≡◌, List, ◌++◌, map, IsPermutation, if◌then◌else◌}
use Rattle.std.specs.List.Sorted.{IsSortedByKey}
use Rattle.std.specs.Ordering.{nat_cmp}
use Rattle.std.specs.Cmp.Lexicographic.{slice_cmp}
use Rattle.terms.specs.declared.kinds.ZoneKind.{ZoneKind}
use Rattle.terms.specs.declared.not_chosen.NotChosen.{NotChosen}
use Rattle.terms.specs.Types.{Id, Global}
use Rattle.terms.specs.Lookups.{is_in}
use Rattle.machine.specs.Outcome.{Status, Superseded, Failure, Failed, Line, StatusLine}
use Rattle.machine.specs.Receiving.{place_of}
use Rattle.machine.specs.Installing.{installed_status, not_chosen_status}
use Rattle.report.specs.declared.outcome.Status as reported
use Rattle.report.specs.Views.{status_view}

-- an id with its status, as contracts see it
abbrev pub id_and_status : Id × reported.Status → Id × Status
id_and_status p = (p.0, status_view p.1)

-- the status of a kept id: installed in this kind of zone if it takes effect, otherwise superseded
abbrev pub kept_status : ZoneKind → List Id → Id → Status
kept_status kind effective x = if is_in effective x then installed_status kind else Superseded

abbrev pub kept_statuses : ZoneKind → List Id → List Id → List (Id × Status)
kept_statuses kind effective kept = map (λ x. (x, kept_status kind effective x)) kept

abbrev pub failed_statuses : List (Id × Failure) → List (Id × Status)
failed_statuses failed = map (λ f. (f.0, Failed f.1)) failed

abbrev pub left_out_statuses : List (Id × NotChosen) → List (Id × Status)
left_out_statuses found = map (λ f. (f.0, not_chosen_status f.1)) found

abbrev pub all_statuses : ZoneKind → List Id → List Id → List (Id × Failure) → List (Id × NotChosen)
    → List (Id × Status)
all_statuses kind effective kept failed found =
    kept_statuses kind effective kept ++ failed_statuses failed ++ left_out_statuses found

-- the same ids with their statuses, by id
pub record IsById (all found : List (Id × Status)) : Type 0 where
  pub same : IsPermutation all found
  pub sorted : IsSortedByKey (λ p. p.0) (slice_cmp nat_cmp) found

-- the line of an id and its status
abbrev pub status_line : Global → Id × Status → Line
status_line g p = StatusLine p.0 (place_of g p.0) p.1

-- the lines of these ids, by id
pub record AreById (g : Global) (all : List (Id × Status)) (lines : List Line) : Type 0 where
  pub found : List (Id × Status)
  pub by_id : IsById all found
  pub lines_are : lines ≡ map (status_line g) found
