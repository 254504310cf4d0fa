-- What is asked about, and what the lines of an APPLY or ACCEPT say.
use Rattle.std.specs.Prelude.{Bool, true, false, ℕ, List, [], ◌∷◌, if◌then◌else◌}
use Rattle.std.specs.List.{flat_map}
use Rattle.terms.specs.Types.{Id, Global, Zone}
use Rattle.machine.specs.Outcome.{Status, Applied, Accepted, Superseded, Failed, Line, StatusLine}
use Rattle.smpe_summary.specs.declared.lines.Condition.{Condition}
use Rattle.smpe_summary.specs.declared.lines.Condition.TheVariants as condition

-- The zones after RECEIVE, the lines of an APPLY or ACCEPT, the ids of the SYSMODs of the package, those of which it is
-- not sure that all that belongs to them was received, and how many holds were read beside the SYSMODs.
pub record Asked : Type 0 where
  pub global : Global
  pub zone : Zone
  pub lines : List Line
  pub members : List Id
  pub unsure : List Id
  pub holds_read : ℕ

-- it is installed
abbrev pub goes_on : Status → Bool
goes_on Applied = true
goes_on Accepted = true
goes_on _ = false

abbrev pub is_failed : Status → Bool
is_failed (Failed why) = true
is_failed _ = false

-- the command took it up
abbrev pub is_candidate : Status → Bool
is_candidate Applied = true
is_candidate Accepted = true
is_candidate Superseded = true
is_candidate (Failed why) = true
is_candidate _ = false

abbrev pub meets : Condition → Status → Bool
meets condition.GoesOn status = goes_on status
meets condition.Fails status = is_failed status
meets condition.IsCandidate status = is_candidate status

-- the id of the line, if its status is one of these
abbrev pub id_where : (Status → Bool) → Line → List Id
id_where P (StatusLine x place status) = if P status then x ∷ [] else []
id_where P _ = []

abbrev pub ids_where : (Status → Bool) → List Line → List Id
ids_where P lines = flat_map (id_where P) lines

-- the ids that go on
abbrev pub going_on : Asked → List Id
going_on a = ids_where goes_on a.lines
