-- The SYSMODs that name an id: in the ++VERs for one SREL, or as a function.
use Rattle.std.specs.Prelude.{◌++◌, ◌&&◌, Bool, false, List, [], ◌∷◌, map, filter, if◌then◌else◌}
use Rattle.std.specs.List.{list_any}
use Rattle.std.specs.Option.{option_map_or}
use Rattle.std.specs.Str.{bytes_eq}
use Rattle.terms.specs.Types.{Text, Id, Sysmod}
use Rattle.terms.specs.Lookups.{is_in}
use Rattle.terms.specs.Global.{named, named_functions, names_for}
use Rattle.sysmods.specs.Held.{found, zone_of}

-- the received SYSMODs that name it
abbrev pub namers_for : List Sysmod → Text → Id → List Id
namers_for xs srel z = filter (λ y. is_in (names_for (zone_of xs) srel y) z) (map (λ s. s.id) xs)

-- those, and one more SYSMOD if it does
abbrev pub namers_with : List Sysmod → Sysmod → Text → Id → List Id
namers_with xs s srel z =
    namers_for xs srel z ++ (if list_any (λ v. bytes_eq v.srel srel && is_in (named v) z) s.vers then s.id ∷ [] else [])

-- whether the received SYSMOD y names z in DELETE, FMID or an ++IF of one of its ++VERs
abbrev pub names_as_function : List Sysmod → Id → Id → Bool
names_as_function xs z y = option_map_or (λ s. list_any (λ v. is_in (named_functions v) z) s.vers) (found xs y) false

-- the received SYSMODs that do
abbrev pub function_namers : List Sysmod → Id → List Id
function_namers xs z = filter (names_as_function xs z) (map (λ s. s.id) xs)
