-- What GROUP and GROUPEXTEND ask for besides the start.
use Rattle.std.specs.Prelude.{◌≡◌, ◌⊎◌, ◌++◌, ◌-◌, ◌||◌, ◌&&◌, Bool, not, List, [], ◌∷◌, filter, map, Contains}
use Rattle.std.specs.Prelude.{IsTrue, slice_get, if◌then◌else◌}
use Rattle.std.specs.List.{flat_map, list_any}
use Rattle.std.specs.Option.{option_and_then}
use Rattle.std.specs.Str.{bytes_eq}
use Rattle.terms.specs.declared.kinds.HoldKind.TheVariants.{Error}
use Rattle.terms.specs.Types.{Id, Ver, Zone, Selection}
use Rattle.terms.specs.Lookups.{is_applied, applied_of, is_supplied, is_function, is_in, at_most_one, holds_of}
use Rattle.terms.specs.Choice.{Choice, ifs_of}
use Rattle.terms.specs.Over.{Reaches}
use Rattle.terms.specs.Candidates.{fmids_for}
use Rattle.terms.specs.Conditions.{reqs_where}
use Rattle.sysmods.specs.Namers.{namers_for, function_namers}
use Rattle.select.specs.Scopes.{Selecting, is_open_in, is_start_in, is_growing_start_in, IsClosed}
use Rattle.select.specs.Scopes.{needed_in, open_reasons_in, received_vers, vers_in, sups_in, is_for_and_fits}

-- y is as good as z: it is z, or under GROUPEXTEND supersedes it
abbrev pub WillDo : Selecting → Id → Id → Type 0
WillDo scope y z = (y ≡ z) ⊎ (IsTrue scope.selection.groupextend × Reaches (sups_in scope) y z)

-- It is asked for: in every closed pair all that is open and as good as it grows.
abbrev pub IsAsked : Selecting → Id → Type 0
IsAsked scope z =
    (cands growing : Id → Bool) → IsClosed scope cands growing
    → (y : Id) → IsTrue (is_open_in scope y) → WillDo scope y z → IsTrue (growing y)

-- one of these ids, and open
abbrev pub is_open_among : Selecting → List Id → Id → Bool
is_open_among scope seen x = is_in seen x && is_open_in scope x

-- a candidate, if these ids are asked for: one of the start, or one that is asked for and open
abbrev pub taken_up : Selecting → List Id → Id → Bool
taken_up scope seen x = is_start_in scope x || is_open_among scope seen x

-- one that grows, if these ids are asked for
abbrev pub has_grown : Selecting → List Id → Id → Bool
has_grown scope seen x = is_growing_start_in scope x || is_open_among scope seen x

-- what a growing one asks for if these are candidates: its needed ids, and under GROUPEXTEND its open reasons
abbrev pub asked_by : Selecting → (Id → Bool) → Id → List Id
asked_by scope cands x =
    needed_in scope cands x ++ (if scope.selection.groupextend then open_reasons_in scope x else [])

-- What has been seen is asked for. It includes all that the growing ones among the start and among the finished ones
-- ask for, and under GROUPEXTEND those that supersede a finished one.
pub record HasAsked (scope : Selecting) (done seen : List Id) : Type 0 where
  pub sound : (z : Id) → Contains seen z → IsAsked scope z
  pub asked : (x z : Id) → IsTrue (has_grown scope done x) → Contains (asked_by scope (taken_up scope done) x) z
      → Contains seen z
  pub over : (y z : Id) → IsTrue scope.selection.groupextend → Contains done z → Contains (sups_in scope y) z
      → Contains seen y

-- All of them are asked for: what all growing ones ask for, if all that is asked for and open is a candidate.
abbrev pub AreAsked : Selecting → List Id → Type 0
AreAsked scope seen = HasAsked scope seen seen

-- whether the function is applied or a candidate
abbrev pub is_there : Selecting → List Id → Id → Bool
is_there scope seen f = is_applied scope.zone f || taken_up scope seen f

-- the FMIDs, unless one of them is applied
abbrev pub open_fmids : Zone → List Id → List Id
open_fmids zone fmids = if list_any (is_applied zone) fmids then [] else fmids

-- the ++VERs of these SYSMODs that are for the zone's SREL and fit
abbrev pub fitting : Selecting → (Id → Bool) → List Id → List Ver
fitting scope cands xs = filter (is_for_and_fits scope.zone cands) (flat_map (received_vers scope) xs)

-- what these ++VERs require: by PRE, by REQ, and by ++IFs whose function is applied or a candidate
abbrev pub required_of : Zone → (Id → Bool) → List Ver → List Id
required_of zone cands vs =
    flat_map (λ v. v.pre) vs ++ flat_map (λ v. v.req) vs
    ++ reqs_where (λ f. is_applied zone f || cands f) (flat_map (λ v. v.ifs) vs)

-- what they require by ++IFs for a function
abbrev pub required_for : Id → List Ver → List Id
required_for f vs = reqs_where (bytes_eq f) (flat_map (λ v. v.ifs) vs)

-- the ++VER by which an applied SYSMOD was installed
abbrev pub installed_ver : Selecting → Choice
installed_ver scope y = option_and_then (λ a. slice_get (vers_in scope y) (a.number - 1)) (applied_of scope.zone y)

-- the received SYSMODs that name it as a function
abbrev pub namers_in : Selecting → Id → List Id
namers_in scope f = function_namers scope.global.sysmods f

-- the requisites that applied SYSMODs state for a function by ++IF
abbrev pub stated : Selecting → Id → List Id
stated scope x =
    if is_function scope.global x
    then reqs_where (bytes_eq x) (flat_map (ifs_of (installed_ver scope)) (namers_in scope x)) else []

-- the reasons of its ERROR holds, under GROUPEXTEND
abbrev pub reasons : Selecting → Id → List Id
reasons scope x = if scope.selection.groupextend then map (λ h. h.reason) (holds_of scope.global Error x) else []

-- what it asks for by itself, if these ids are asked for
abbrev pub own_asked : Selecting → List Id → Id → List Id
own_asked scope seen x =
    open_fmids scope.zone (fmids_for scope.global scope.zone.srel x)
    ++ filter (λ z. not (is_supplied scope.zone z))
    (required_of scope.zone (taken_up scope seen) (fitting scope (taken_up scope seen) (x ∷ []))
    ++ stated scope x ++ reasons scope x)

-- the ++VERs that fit of those that grow and name the function
abbrev pub fitting_namers : Selecting → List Id → Id → List Ver
fitting_namers scope seen f = fitting scope (taken_up scope seen) (filter (has_grown scope seen) (namers_in scope f))

-- what those ask for because of the function: all that a ++VER with this FMID requires, and what ++IFs for it require
abbrev pub asked_by_namers : Selecting → List Id → Id → List Id
asked_by_namers scope seen f =
    filter (λ z. not (is_supplied scope.zone z))
    (required_of scope.zone (taken_up scope seen)
    (filter (λ v. is_in (at_most_one v.fmid) f) (fitting_namers scope seen f))
    ++ required_for f (fitting_namers scope seen f))

-- What is asked for once an open id is: what it asks for by itself, unless it grew from the start, and what others ask
-- for because of it, unless it was a candidate from the start.
abbrev pub brought_by : Selecting → List Id → Id → List Id
brought_by scope seen x =
    if is_growing_start_in scope x then []
    else own_asked scope seen x ++ (if is_start_in scope x then [] else asked_by_namers scope seen x)

-- those that supersede it directly, under GROUPEXTEND
abbrev pub superseders : Selecting → Id → List Id
superseders scope z =
    if scope.selection.groupextend then filter (λ y. is_in (sups_in scope y) z)
    (namers_for scope.global.sysmods scope.zone.srel z) else []

-- what is asked for once an id is: if it is open what it brings, and in any case those that supersede it
abbrev pub next_asked : Selecting → List Id → Id → List Id
next_asked scope seen z = (if is_open_in scope z then brought_by scope seen z else []) ++ superseders scope z

-- whether an id of the start brings others in
abbrev pub brings_others : Selection → Id → Bool
brings_others sel x = sel.groupextend || is_in sel.group x

-- what one of the start asks for, if it does
abbrev pub asked_first : Selecting → Id → List Id
asked_first scope x = if brings_others scope.selection x then own_asked scope [] x else []
