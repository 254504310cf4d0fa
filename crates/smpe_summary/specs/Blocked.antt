-- Which SYSMODs of the package fail because of a causer.
use Rattle.std.specs.Prelude.{◌&&◌, List, [], if◌then◌else◌}
use Rattle.std.specs.List.{flat_map}
use Rattle.std.specs.Ordering.{nat_cmp}
use Rattle.std.specs.Cmp.Lexicographic.{slice_cmp}
use Rattle.terms.specs.Types.{Id}
use Rattle.terms.specs.Lookups.{is_in}
use Rattle.sorted.specs.MultiMap.{once_each}
use Rattle.machine.specs.Outcome.{Failure, Failed, Line, StatusLine}
use Rattle.smpe_summary.specs.Asked.{Asked}
use Rattle.smpe_summary.specs.Groups.{failed_group, is_plain_failure}

-- x, if it is of the package, would fail, and y is among its causers
abbrev pub blocked_by : Asked → (Id → List Id) → Id → Id → Failure → List Id
blocked_by a supers y x f =
    if is_in a.members x && is_plain_failure (failed_group a.global (supers x) f)
    then once_each (slice_cmp nat_cmp) f.causers x y else []

-- the same of the SYSMOD of the line
abbrev pub blocked_in : Asked → (Id → List Id) → Id → Line → List Id
blocked_in a supers y (StatusLine x place (Failed f)) = blocked_by a supers y x f
blocked_in a supers y _ = []

-- the SYSMODs of the package that would fail and have the causer y
abbrev pub blocked : Asked → (Id → List Id) → Id → List Id
blocked a supers y = flat_map (blocked_in a supers y) a.lines
