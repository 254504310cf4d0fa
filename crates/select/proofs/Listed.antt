-- What names an id stands among those that are found by it.
use Rattle.std.proofs.Common.{◌≡◌, Bool, false, List, [], ◌++◌, map}
use Rattle.std.proofs.Common.{filter, Option, None, Some, Contains, IsTrue, refl, sym}
use Rattle.std.proofs.Common.{subst, ap, ◌∙◌}
use Rattle.std.specs.List.{flat_map, list_any}
use Rattle.std.specs.Option.{option_map_or}
use Rattle.std.specs.Str.{bytes_eq}
use Rattle.std.proofs.lemmas.List.Elements.{Contains-append_left, Contains-append_right}
use Rattle.terms.specs.Types.{Text, Id, IfReq, Ver, Sysmod, Global}
use Rattle.terms.specs.Lookups.{at_most_one, sysmod_of}
use Rattle.terms.specs.Lookups.{is_in}
use Rattle.terms.specs.Choice.{vers_of}
use Rattle.terms.specs.Candidates.{sups_for}
use Rattle.terms.specs.Global.{named, named_functions, names_for}
use Rattle.terms.proofs.ListMembers.{here, none_in, in_map, in_filter, filter_in, flat_in, in_flat}
use Rattle.terms.proofs.Searches.{find_gives}
use Rattle.terms.proofs.TextOrder.{same_from}
use Rattle.sysmods.specs.Held.{zone_of}
use Rattle.sysmods.specs.Namers.{namers_for, names_as_function, function_namers}
use Rattle.terms.proofs.Ids.{is_in_from_Contains}
use Rattle.terms.proofs.Searches.{passes_some}

-- What names anything in a ++VER that counts is received.
abbrev of_srel : Text → Ver → Bool
of_srel srel v = bytes_eq v.srel srel

pub listed : (g : Global) (y : Id) (s : Sysmod) → sysmod_of g y ≡ Some s → Contains (map (λ s. s.id) g.sysmods) y
listed g y s e =
    let gives = find_gives (λ s. bytes_eq s.id y) g.sysmods s e in
    subst (Contains (map (λ s. s.id) g.sysmods)) (same_from s.id y gives.0) (in_map (λ s. s.id) g.sysmods s gives.1)

-- What supersedes an id directly names it.
pub super_listed : (g : Global) (srel : Text) (y z : Id) → Contains (sups_for g srel y) z
    → Contains (namers_for g.sysmods srel z) y
super_listed g srel y z names = by (sysmod_of g y) refl names
  where
    in_named : (v : Ver) → Contains v.sup z → Contains (named v) z
    in_named v h = Contains-append_left (v.pre ++ v.sup) (at_most_one v.fmid) z (Contains-append_right v.pre v.sup z h)

    among : (vs : List Ver) → Contains (flat_map (λ v. v.sup) vs) z → Contains (flat_map named vs) z
    among vs h =
        let from = flat_in (λ v. v.sup) vs z h in
        in_flat named vs from.0 z from.1 (in_named from.0 from.2)

    by : (o : Option Sysmod) → sysmod_of g y ≡ o
        → Contains (flat_map (λ v. v.sup) (option_map_or (λ s. filter (of_srel srel) s.vers) o [])) z
        → Contains (namers_for g.sysmods srel z) y
    by None e none = absurd (none_in z none)
    by (Some s) e h =
        in_filter (λ y. is_in (names_for (zone_of g.sysmods) srel y) z) (map (λ s. s.id) g.sysmods) y (listed g y s e)
        (is_in_from_Contains (names_for (zone_of g.sysmods) srel y) z
        (subst (λ o. Contains (flat_map named (option_map_or (λ s. filter (of_srel srel) s.vers) o [])) z) (sym e)
        (among (filter (of_srel srel) s.vers) h)))

-- An FMID and the function of an ++IF are named as functions.
pub fmid_named : (v : Ver) (f : Id) → v.fmid ≡ Some f → IsTrue (is_in (named_functions v) f)
fmid_named v f at = is_in_from_Contains (named_functions v) f
    (Contains-append_left (v.del ++ at_most_one v.fmid) (map (λ i. i.function) v.ifs) f
    (Contains-append_right v.del (at_most_one v.fmid) f
    (subst (λ o. Contains (at_most_one o) f) (sym at) (here f []))))

pub if_named : (v : Ver) (i : IfReq) → Contains v.ifs i → IsTrue (is_in (named_functions v) i.function)
if_named v i h = is_in_from_Contains (named_functions v) i.function
    (Contains-append_right (v.del ++ at_most_one v.fmid) (map (λ i. i.function) v.ifs) i.function
    (in_map (λ (i : IfReq). i.function) v.ifs i h))

-- What has a ++VER that names a function so is among its namers.
pub function_listed : (g : Global) (srel : Text) (y f : Id) (v : Ver) → Contains (vers_of g srel y) v
    → IsTrue (is_in (named_functions v) f) → Contains (function_namers g.sysmods f) y
function_listed g srel y f v there names = by (sysmod_of g y) refl there
  where
    by : (o : Option Sysmod) → sysmod_of g y ≡ o
        → Contains (option_map_or (λ s. filter (of_srel srel) s.vers) o []) v
        → Contains (function_namers g.sysmods f) y
    by None e none = absurd (none_in v none)
    by (Some s) e h =
        in_filter (names_as_function g.sysmods f) (map (λ s. s.id) g.sysmods) y (listed g y s e)
        (ap (λ o. option_map_or (λ s. list_any (λ v. is_in (named_functions v) f) s.vers) o false) e
        ∙ passes_some (λ v. is_in (named_functions v) f) s.vers v (filter_in (of_srel srel) s.vers v h).0 names)
