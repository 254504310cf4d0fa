-- Which functions name which ids in NPRE.
use Rattle.std.specs.Prelude.{◌≡◌, ◌⊎◌, List, Contains, IsTrue, is_some}
use Rattle.std.specs.Ordering.{nat_cmp}
use Rattle.std.specs.Cmp.Lexicographic.{slice_cmp}
use Rattle.sorted.specs.MultiMap.{MultiMap, Holds, OneOf}
use Rattle.terms.specs.Types.{Id, Entry, Global, Zone}
use Rattle.terms.specs.Lookups.{is_applied, is_function}
use Rattle.terms.specs.Choice.{Choice, npre_of}

-- the entry is that of an applied function y that names z
pub record ForbidsBy (g : Global) (c : Choice) (e : Entry) (z y : Id) : Type 0 where
  pub id : y ≡ e.id
  pub applied : IsTrue (is_some e.applied)
  pub function : IsTrue (is_function g e.id)
  pub names : Contains (npre_of c e.id) z

-- they are those of these entries
abbrev pub AreForbidders : Global → Choice → List Entry → MultiMap Id Id → Type 0
AreForbidders g c entries all = Holds (slice_cmp nat_cmp) all (OneOf entries (ForbidsBy g c))

-- x names an id that is applied in the zone, or an applied function there names x
abbrev pub IsForbidden : Global → Choice → Zone → Id → Type 0
IsForbidden g c zone x =
    (y : Id) × IsTrue (is_applied zone y)
    × (Contains (npre_of c x) y ⊎ (IsTrue (is_function g y) × Contains (npre_of c y) x))
