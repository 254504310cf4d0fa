-- In which group a SYSMOD of the package is.
use Rattle.std.specs.Prelude.{◌&&◌, Bool, true, false, not, List, [], ◌∷◌, ◌++◌, Option, None, Some}
use Rattle.std.specs.Prelude.{find, map, is_some, if◌then◌else◌}
use Rattle.std.specs.List.{flat_map}
use Rattle.terms.specs.declared.codes.NeedKind.{NeedKind}
use Rattle.terms.specs.declared.codes.NeedKind.TheVariants as need
use Rattle.terms.specs.Types.{Id, Global}
use Rattle.terms.specs.Lookups.{at_most_one, is_in, is_received, is_supplied, delby_of}
use Rattle.machine.specs.Outcome.{OpenNeed, Failure, Status, Applied, Accepted, Superseded, Failed, Line, StatusLine}
use Rattle.smpe_summary.specs.declared.values.Group.{Group}
use Rattle.smpe_summary.specs.declared.values.Group.TheVariants as group
use Rattle.smpe_summary.specs.declared.values.Member.{Member}
use Rattle.smpe_summary.specs.Asked.{Asked}

abbrev pub a_member : Id → Group → Member
a_member x which = record { id = x; group = which }

abbrev pub is_fmid : NeedKind → Bool
is_fmid need.Fmid = true
is_fmid _ = false

-- the need is for a function that is not received
abbrev pub lacks_function : Global → OpenNeed → Bool
lacks_function g n = is_fmid n.kind && not (is_received g n.id)

abbrev pub by_function : Option OpenNeed → Group
by_function None = group.Failed
by_function (Some n) = group.NoFunction n.id

-- one that fails, with those that go on and supersede it
abbrev pub failed_group : Global → List Id → Failure → Group
failed_group g (y ∷ ys) f = group.SupersededBy y
failed_group g [] f = by_function (find (lacks_function g) f.needs)

abbrev pub sure_group : List Id → Id → Group → Group
sure_group unsure x certain = if is_in unsure x then group.NotDecided else certain

-- The group by the status of its line, if the command took it up. `supers` are those that go on and supersede an id.
abbrev pub status_group : Asked → (Id → List Id) → Id → Status → Option Group
status_group a supers x Applied = Some (sure_group a.unsure x group.Applied)
status_group a supers x Accepted = Some (sure_group a.unsure x group.Applied)
status_group a supers x Superseded = Some (sure_group a.unsure x group.Superseded)
status_group a supers x (Failed f) = Some (failed_group a.global (supers x) f)
status_group a supers x _ = None

-- the group by the zones, of one that the command did not take up
abbrev pub zone_group : Asked → Id → Group
zone_group a x =
    if is_supplied a.zone x then group.AlreadyOn
    else if is_some (delby_of a.zone x) then group.Deleted
    else if is_received a.global x then group.NoVer
    else group.NotReceived

-- the member with this status, if it is of the package and the command took it up
abbrev pub known_member : Asked → (Id → List Id) → Id → Status → List Member
known_member a supers x status =
    if is_in a.members x then map (a_member x) (at_most_one (status_group a supers x status)) else []

-- the same of a line
abbrev pub line_member : Asked → (Id → List Id) → Line → List Member
line_member a supers (StatusLine x place status) = known_member a supers x status
line_member a supers _ = []

-- the member, if it is not among the candidates
abbrev pub other_member : Asked → List Id → Id → List Member
other_member a cands x = if is_in cands x then [] else a_member x (zone_group a x) ∷ []

-- the SYSMODs of the package: those that the command took up, and the others
abbrev pub members_of : Asked → (Id → List Id) → List Id → List Member
members_of a supers cands = flat_map (line_member a supers) a.lines ++ flat_map (other_member a cands) a.members

abbrev pub is_plain_failure : Group → Bool
is_plain_failure group.Failed = true
is_plain_failure _ = false

-- ---- functions

-- the function that a SYSMOD of the group lacks
abbrev pub function_of : Group → List Id
function_of (group.NoFunction f) = f ∷ []
function_of _ = []

-- the functions that these lack, one for each of them that lacks one
abbrev pub functions_of : List Member → List Id
functions_of ms = flat_map (λ m. function_of m.group) ms
