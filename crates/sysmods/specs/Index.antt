-- The index of received SYSMODs: for each id the ids of those that name it.
use Rattle.std.specs.Prelude.{◌≡◌, ◌||◌, Bool, false, IsTrue, List, [], ◌∷◌}
use Rattle.std.specs.Option.{option_map_or}
use Rattle.std.specs.List.{list_any}
use Rattle.std.specs.Ordering.{nat_cmp}
use Rattle.std.specs.Cmp.Lexicographic.{slice_cmp}
use Rattle.std.specs.Str.{bytes_eq}
use Rattle.std.specs.BTreeMap.{BTreeMap, get}
use Rattle.terms.specs.Types.{Id, Ver, Sysmod}
use Rattle.terms.specs.Lookups.{is_in}
use Rattle.terms.specs.Global.{named, named_functions}
use Rattle.sysmods.specs.declared.index.IndexEntry.{IndexEntry}
use Rattle.sysmods.specs.declared.index.IndexEntry.TheVariants.{One, More}

abbrev pub Sets : Type 0
Sets = BTreeMap Id IndexEntry

-- the ids of an entry
abbrev pub members : IndexEntry → List Id
members (One y) = y ∷ []
members (More s) = s.keys

-- it removes none
abbrev pub KeepsMembers : IndexEntry → IndexEntry → Type 0
KeepsMembers old new = (y : Id) → IsTrue (is_in (members old) y) → IsTrue (is_in (members new) y)

-- it removes only x
abbrev pub KeepsMembersBut : Id → IndexEntry → IndexEntry → Type 0
KeepsMembersBut x old new = (y : Id) → bytes_eq x y ≡ false → IsTrue (is_in (members old) y)
    → IsTrue (is_in (members new) y)

-- whether y is among those that name z
abbrev pub has : Sets → Id → Id → Bool
has sets z y = option_map_or (λ n. is_in (members n) y) (get (slice_cmp nat_cmp) sets z) false

-- y is among those that name each id which passes the test
abbrev pub HasAll : Sets → Id → (Id → Bool) → Type 0
HasAll sets y test = (z : Id) → IsTrue (test z) → IsTrue (has sets z y)

-- nothing is removed
abbrev pub Grows : Sets → Sets → Type 0
Grows old new = (z y : Id) → IsTrue (has old z y) → IsTrue (has new z y)

-- only x is removed
abbrev pub KeepsOthers : Id → Sets → Sets → Type 0
KeepsOthers x old new = (z y : Id) → bytes_eq x y ≡ false → IsTrue (has old z y) → IsTrue (has new z y)

-- whether the ++VER names the id in any way that the index records: in PRE, SUP, FMID, DELETE or an ++IF
abbrev pub mentions : Ver → Id → Bool
mentions v z = is_in (named v) z || is_in (named_functions v) z

-- the SYSMOD is among those that name each id which one of its ++VERs names
abbrev pub IsIndexed : Sets → Sysmod → Type 0
IsIndexed sets s = HasAll sets s.id (λ z. list_any (λ v. mentions v z) s.vers)
