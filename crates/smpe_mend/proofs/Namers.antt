-- What supersedes an id is among the SYSMODs that name it.
use Rattle.std.proofs.Common.{◌≡◌, Bool, true, false, List, [], ◌∷◌, Option, None, Some, map, filter, cond, refl, ap}
use Rattle.std.proofs.Common.{Contains, IsTrue}
use Rattle.std.specs.Prelude.{◌++◌, ◌||◌}
use Rattle.std.specs.List.{flat_map, list_any}
use Rattle.std.specs.Option.{option_map_or}
use Rattle.std.proofs.lemmas.Bool.{false≢true}
use Rattle.std.proofs.lemmas.List.Elements.{Contains-append_left, Contains-append_right}
use Rattle.terms.specs.Types.{Srel, Id, Ver, Sysmod, Global}
use Rattle.terms.specs.Lookups.{is_in, at_most_one}
use Rattle.terms.specs.Choice.{vers_of}
use Rattle.terms.specs.Candidates.{sups_for}
use Rattle.terms.specs.Global.{named, names_for}
use Rattle.terms.proofs.Ids.{is_in_from_Contains, Contains_from_is_in}
use Rattle.terms.proofs.ListMembers.{flat_in, in_flat}
use Rattle.sysmods.specs.Held.{zone_of}
use Rattle.sysmods.specs.Namers.{namers_for}
use Rattle.smpe_mend.specs.Asked.{is_superseded}

-- the ++VERs of a SYSMOD that pass a test, if it is received
pub vers_kept : (p : Ver → Bool) (o : Option Sysmod)
    → filter p (option_map_or (λ s. s.vers) o []) ≡ option_map_or (λ s. filter p s.vers) o []
vers_kept p None = refl
vers_kept p (Some s) = refl

-- Whether an item passes is seen among those that pass another test, if it follows from the first.
any_among : (p q : Id → Bool) (xs : List Id) → ((x : Id) → IsTrue (p x) → IsTrue (q x))
    → list_any p (filter q xs) ≡ list_any p xs
any_among p q [] follows = refl
any_among p q (x ∷ xs) follows = by (p x) (q x) (follows x) (any_among p q xs follows) refl
  where
    by : (a b : Bool) → (IsTrue a → IsTrue b) → list_any p (filter q xs) ≡ list_any p xs → p x ≡ a
        → list_any p (cond b (x ∷ filter q xs) (filter q xs)) ≡ (a || list_any p xs)
    by true true h rest is = rw is refl
    by false true h rest is = rw is rest
    by false false h rest is = rest
    by true false h rest is = absurd (false≢true (h refl))

in_named : (v : Ver) (z : Id) → Contains v.sup z → Contains (named v) z
in_named v z h = Contains-append_left (v.pre ++ v.sup) (at_most_one v.fmid) z (Contains-append_right v.pre v.sup z h)

-- what supersedes an id names it
names : (g : Global) (srel : Srel) (z y : Id) → IsTrue (is_in (sups_for g srel y) z)
    → IsTrue (is_in (names_for (zone_of g.sysmods) srel y) z)
names g srel z y h =
    let from = flat_in (λ v. v.sup) (vers_of g srel y) z (Contains_from_is_in (sups_for g srel y) z h) in
    is_in_from_Contains (names_for (zone_of g.sysmods) srel y) z
    (in_flat named (vers_of g srel y) from.0 z from.1 (in_named from.0 z from.2))

pub among_namers : (g : Global) (srel : Srel) (z : Id)
    → list_any (λ y. is_in (sups_for g srel y) z) (namers_for g.sysmods srel z) ≡ is_superseded g srel z
among_namers g srel z =
    any_among (λ y. is_in (sups_for g srel y) z) (λ y. is_in (names_for (zone_of g.sysmods) srel y) z)
    (map (λ s. s.id) g.sysmods) (names g srel z)
