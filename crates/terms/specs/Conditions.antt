-- What ++IFs require.
-- (IBM z/OS SMP/E Reference, ++IF.)
use Rattle.std.specs.Prelude.{◌||◌, Bool, List, [], ◌++◌, filter, if◌then◌else◌}
use Rattle.std.specs.List.{flat_map}
use Rattle.std.specs.Str.{bytes_eq}
use Rattle.terms.specs.Types.{Id, IfReq, Global, Zone}
use Rattle.terms.specs.Lookups.{is_applied, is_function, applied_ids}
use Rattle.terms.specs.Choice.{Choice, ifs_of}

-- the requisites of those ++IFs whose function is present
abbrev pub reqs_where : (Id → Bool) → List IfReq → List Id
reqs_where is_there ifs = flat_map (λ i. i.req) (filter (λ i. is_there i.function) ifs)

-- those that a SYSMOD states
abbrev pub if_reqs : Choice → (Id → Bool) → Id → List Id
if_reqs c is_there x = reqs_where is_there (ifs_of c x)

-- the ++IF requisites that these SYSMODs state for a function
abbrev pub stated_for : Choice → List Id → Id → List Id
stated_for c xs function = flat_map (if_reqs c (bytes_eq function)) xs

-- The requisites by ++IF: its own whose function is applied or a candidate, and for a function those that applied
-- SYSMODs state for it.
abbrev pub if_needed : Global → Choice → Zone → (Id → Bool) → Id → List Id
if_needed g c zone cands x =
    if_reqs c (λ f. is_applied zone f || cands f) x
    ++ (if is_function g x then stated_for c (applied_ids zone) x else [])
