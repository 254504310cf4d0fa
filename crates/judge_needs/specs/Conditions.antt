-- The requisites by ++IF, as lists and as an index of what applied SYSMODs state.
use Rattle.std.specs.Prelude.{◌≡◌, ◌||◌, ◌++◌, Bool, List, map}
use Rattle.std.specs.List.{flat_map}
use Rattle.std.specs.Ordering.{nat_cmp}
use Rattle.std.specs.Cmp.Lexicographic.{slice_cmp}
use Rattle.std.specs.Str.{bytes_eq}
use Rattle.sorted.specs.MultiMap.{MultiMap, listed}
use Rattle.terms.specs.Types.{Id, Zone}
use Rattle.terms.specs.Lookups.{is_in, is_applied, applied_ids}
use Rattle.terms.specs.Choice.{Choice}
use Rattle.terms.specs.Conditions.{if_reqs}
use Rattle.judge_needs.specs.declared.stated.StatedRequisite.{StatedRequisite}

-- whether the function is applied or a candidate
abbrev pub is_there : Zone → List Id → Id → Bool
is_there zone ids f = is_applied zone f || is_in ids f

-- the requisite, stated by this SYSMOD
abbrev pub a_requisite : Id → Id → StatedRequisite
a_requisite by z = record { by = by; id = z }

-- for each function the requisites that are stated for it
abbrev pub Stated : Type 0
Stated = MultiMap Id StatedRequisite

abbrev pub requisites_of : Stated → Id → List StatedRequisite
requisites_of = listed (slice_cmp nat_cmp)

-- each function gets some more
abbrev pub AddsMore : Stated → Stated → (Id → List StatedRequisite) → Type 0
AddsMore old new more = (f : Id) → requisites_of new f ≡ requisites_of old f ++ more f

-- what the SYSMOD states for the function
abbrev pub stated_by : Choice → Id → Id → List StatedRequisite
stated_by c f y = map (a_requisite y) (if_reqs c (bytes_eq f) y)

-- they are what applied SYSMODs state
abbrev pub AreStated : Choice → Zone → Stated → Type 0
AreStated c zone stated = (f : Id) → requisites_of stated f ≡ flat_map (stated_by c f) (applied_ids zone)
