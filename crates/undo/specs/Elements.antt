-- Which SYSMODs change which element.
use Rattle.std.specs.Prelude.{◌≡◌, Bool, not, List, Contains, map}
use Rattle.std.specs.List.{flat_map}
use Rattle.sorted.specs.ElementKeys.{Key, key_cmp}
use Rattle.sorted.specs.MultiMap.{MultiMap, listed, Holds, OneOf}
use Rattle.terms.specs.Types.{Id, Change, Global}
use Rattle.terms.specs.Lookups.{change_key, changes_of, is_nil}

-- the elements that a SYSMOD changes
abbrev pub changed_keys : Global → Id → List Key
changed_keys g x = map change_key (changes_of g x)

-- for each element some SYSMODs that change it
abbrev pub Changers : Type 0
Changers = MultiMap Key Id

-- x changes the element
abbrev pub ChangedBy : Global → Id → Key → Id → Type 0
ChangedBy g x k y = Contains (changed_keys g x) k × (y ≡ x)

-- they are the SYSMODs among these that change the element
abbrev pub AreChangers : Global → List Id → Changers → Type 0
AreChangers g ids all = Holds key_cmp all (OneOf ids (ChangedBy g))

-- those of them that change an element of x
abbrev pub sharers : Global → Changers → Id → List Id
sharers g all x = flat_map (λ h. listed key_cmp all (change_key h)) (changes_of g x)

-- x with each of those
abbrev pub beside : Global → Changers → Id → List (Id × Id)
beside g all x = map (λ y. (x, y)) (sharers g all x)

-- whether one of them changes the element of the statement
abbrev pub is_changed_by : Changers → Change → Bool
is_changed_by all h = not (is_nil (listed key_cmp all (change_key h)))
