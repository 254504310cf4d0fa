-- Which SYSMODs an APPLY or ACCEPT takes up.
-- (IBM z/OS SMP/E Commands, the APPLY command and the ACCEPT command: FUNCTIONS, PTFS, APARS, USERMODS, SELECT,
-- EXCLUDE, SOURCEID, FORFMID, GROUP and GROUPEXTEND. How these combine is this project's profile.)
use Rattle.std.specs.Prelude.{◌≡◌, ◌⊎◌, ◌↔◌, ◌&&◌, ◌||◌, Bool, false, not, List, [], ◌∷◌, ◌++◌, Option, None, Some}
use Rattle.std.specs.Prelude.{filter, map, is_some, IsTrue, Contains, if◌then◌else◌}
use Rattle.std.specs.List.{flat_map, list_any}
use Rattle.std.specs.Option.{option_map_or}
use Rattle.terms.specs.declared.kinds.Kind.{Kind}
use Rattle.terms.specs.declared.kinds.Kind.TheVariants.{Function, Ptf, Apar, Usermod}
use Rattle.terms.specs.declared.kinds.HoldKind.TheVariants.{Error}
use Rattle.terms.specs.declared.not_chosen.NotChosen.{NotChosen}
use Rattle.terms.specs.declared.not_chosen.NotChosen.TheVariants.{Already, Deleted, Missing, NoVer}
use Rattle.terms.specs.Types.{Srel, Id, Ver, Sysmod, Global, Zone, Selection}
use Rattle.terms.specs.Lookups.{IsRising, is_nil, at_most_one, is_in, meets, sysmod_of, is_received, is_function}
use Rattle.terms.specs.Lookups.{holds_of, applied_ids, is_applied, is_supplied, delby_of}
use Rattle.terms.specs.Choice.{vers_of, fits, counting}
use Rattle.terms.specs.Conditions.{reqs_where, stated_for}
use Rattle.terms.specs.Over.{Reaches}

-- It may be installed: it has a ++VER for the zone's SREL, and the zone neither supplies it nor has it deleted.
abbrev pub is_installable : Global → Zone → Id → Bool
is_installable g zone x =
    not (is_nil (vers_of g zone.srel x)) && not (is_supplied zone x) && not (is_some (delby_of zone x))

-- It may be installed, and EXCLUDE does not name it.
abbrev pub is_open : Global → Zone → Selection → Id → Bool
is_open g zone sel x = is_installable g zone x && not (is_in sel.exclude x)

-- whether FUNCTIONS, PTFS, APARS or USERMODS takes the type; without any of them only PTFs are taken
abbrev pub takes_kind : Selection → Kind → Bool
takes_kind sel Function = sel.functions
takes_kind sel Ptf = sel.ptfs || not (sel.functions || sel.apars || sel.usermods)
takes_kind sel Apar = sel.apars
takes_kind sel Usermod = sel.usermods

-- the FMIDs of its ++VERs for the zone's SREL
abbrev pub fmids_for : Global → Srel → Id → List Id
fmids_for g srel x = flat_map (λ v. at_most_one v.fmid) (vers_of g srel x)

-- what FORFMID compares: the FMIDs for the zone's SREL, and a function's own id
abbrev pub forfmid_ids : Global → Zone → Id → List Id
forfmid_ids g zone x = fmids_for g zone.srel x ++ (if is_function g x then x ∷ [] else [])

-- whether a SYSMOD passes all filters of the mass choice
abbrev pub passes_filters : Global → Zone → Selection → Sysmod → Bool
passes_filters g zone sel s =
    takes_kind sel s.kind
    && (is_nil sel.sourceid || meets s.sources sel.sourceid)
    && (is_nil sel.forfmid || meets (forfmid_ids g zone s.id) sel.forfmid)

-- The command chooses by mass if it has a filter, or if neither SELECT nor GROUP names an id.
abbrev pub has_mass_choice : Selection → Bool
has_mass_choice sel =
    sel.functions || sel.ptfs || sel.apars || sel.usermods
    || not (is_nil sel.sourceid) || not (is_nil sel.forfmid)
    || (is_nil sel.select && is_nil sel.group)

-- whether the mass choice takes it, if there is one
abbrev pub is_mass_chosen : Global → Zone → Selection → Id → Bool
is_mass_chosen g zone sel x =
    has_mass_choice sel && option_map_or (passes_filters g zone sel) (sysmod_of g x) false

-- the start: the open ids that the mass choice, SELECT or GROUP names
abbrev pub is_start : Global → Zone → Selection → Id → Bool
is_start g zone sel x =
    is_open g zone sel x && (is_in sel.select x || is_in sel.group x || is_mass_chosen g zone sel x)

-- the ids of the start that bring others in: those of GROUP, and under GROUPEXTEND all of them
abbrev pub is_growing_start : Global → Zone → Selection → Id → Bool
is_growing_start g zone sel x = is_start g zone sel x && (sel.groupextend || is_in sel.group x)

-- what a ++VER requires: PRE, REQ, and the REQ of each ++IF whose function is applied or a candidate
abbrev pub required_by : Zone → (Id → Bool) → Ver → List Id
required_by zone cands v = v.pre ++ v.req ++ reqs_where (λ f. is_applied zone f || cands f) v.ifs

-- Its needed ids. These are its FMIDs, unless one of them is applied. They are also the requisites of those of its
-- ++VERs for the zone's SREL that fit and, of a function, the requisites that applied SYSMODs state for it by ++IF,
-- less what the zone supplies.
unfoldable pub needed_ids : Global → Zone → (Id → Bool) → Id → List Id
needed_ids g zone cands x =
    (if list_any (is_applied zone) (fmids_for g zone.srel x) then [] else fmids_for g zone.srel x)
    ++ filter (λ z. not (is_supplied zone z))
    (flat_map (required_by zone cands) (filter (fits zone cands) (vers_of g zone.srel x))
    ++ (if is_function g x then stated_for (counting g zone []) (applied_ids zone) x else []))

-- the reasons of its ERROR holds that the zone does not supply: the APARs that would resolve the holds
abbrev pub open_reasons : Global → Zone → Id → List Id
open_reasons g zone x = filter (λ z. not (is_supplied zone z)) (map (λ h. h.reason) (holds_of g Error x))

-- what its ++VERs for an SREL supersede directly
abbrev pub sups_for : Global → Srel → Id → List Id
sups_for g srel x = flat_map (λ v. v.sup) (vers_of g srel x)

-- y is a needed id of x or the reason of an ERROR hold on x, or y supersedes such an id
abbrev pub Extends : Global → Zone → (Id → Bool) → Id → Id → Type 0
Extends g zone cands x y =
    (z : Id) × Contains (needed_ids g zone cands x ++ open_reasons g zone x) z
    × ((y ≡ z) ⊎ Reaches (sups_for g zone.srel) y z)

-- x brings y in: y is open, and x needs it or, under GROUPEXTEND, y extends x
abbrev pub BringsIn : Global → Zone → Selection → (Id → Bool) → Id → Id → Type 0
BringsIn g zone sel cands x y =
    IsTrue (is_open g zone sel y)
    × (Contains (needed_ids g zone cands x) y ⊎ (IsTrue sel.groupextend × Extends g zone cands x y))

-- The candidates contain the start. The growing ones among them contain what each of them brings in.
pub record IsClosedPair (g : Global) (zone : Zone) (sel : Selection) (cands growing : Id → Bool) :
    Type 0 where
  pub start : (x : Id) → IsTrue (is_start g zone sel x) → IsTrue (cands x)
  pub growing_start : (x : Id) → IsTrue (is_growing_start g zone sel x) → IsTrue (growing x)
  pub part : (x : Id) → IsTrue (growing x) → IsTrue (cands x)
  pub only_open : (x : Id) → IsTrue (growing x) → IsTrue (is_open g zone sel x)
  pub grown : (x y : Id) → IsTrue (growing x) → BringsIn g zone sel cands x y → IsTrue (growing y)

-- It is in the first set of every closed pair.
abbrev pub IsCandidate : Global → Zone → Selection → Id → Type 0
IsCandidate g zone sel x =
    (cands growing : Id → Bool) → IsClosedPair g zone sel cands growing → IsTrue (cands x)

-- all candidates
pub record AreCandidates (g : Global) (zone : Zone) (sel : Selection) (cands : List Id) : Type 0 where
  pub rising : IsRising cands
  pub members : (x : Id) → Contains cands x ↔ IsCandidate g zone sel x

-- the status that is printed for an id that SELECT or GROUP names and that is not open although EXCLUDE does not name
-- it
unfoldable pub not_chosen : Global → Zone → Selection → Id → Option NotChosen
not_chosen g zone sel x =
    if not (is_in (sel.select ++ sel.group) x) || is_in sel.exclude x || is_open g zone sel x then None
    else if is_supplied zone x then Some Already
    else if is_some (delby_of zone x) then Some Deleted
    else if not (is_received g x) then Some Missing
    else Some NoVer
