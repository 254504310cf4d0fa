-- Entries without their numbers, and the numbers that are not 1.
use Rattle.std.specs.Prelude.{◌==◌, ◌&&◌, ℕ, Bool, false, List, [], ◌∷◌, if◌then◌else◌, is_some, option_map}
use Rattle.std.specs.List.{flat_map}
use Rattle.std.specs.Option.{option_map_or}
use Rattle.std.specs.Str.{bytes_eq}
use Rattle.terms.specs.Types.{an_applied, Entry}
use Rattle.store_zones.specs.declared.installed_vers.EntryNumber.{EntryNumber}

-- the entry with this number, if it is applied
abbrev pub renumbered : Entry → ℕ → Entry
renumbered e n = record e { applied = option_map (λ a. an_applied a.date n) e.applied }

-- as its own row has it
abbrev pub as_first : Entry → Entry
as_first e = renumbered e 1

-- its number, unless that is 1
abbrev pub number_in : Entry → List EntryNumber
number_in e =
    option_map_or (λ a. if a.number == 1 then [] else record { id = e.id; number = a.number } ∷ []) e.applied []

abbrev pub numbers_of : List Entry → List EntryNumber
numbers_of entries = flat_map number_in entries

-- ---- the numbers given to entries one after the other

-- whether it is the number of the entry, which is applied
abbrev pub is_number_of : Entry → EntryNumber → Bool
is_number_of e n = is_some e.applied && bytes_eq n.id e.id

abbrev pub begins_with : Entry → List EntryNumber → Bool
begins_with e [] = false
begins_with e (n ∷ ns) = is_number_of e n

-- the entry with the first of the numbers, if that is its own
abbrev pub with_first : Entry → List EntryNumber → Entry
with_first e [] = e
with_first e (n ∷ ns) = if is_number_of e n then renumbered e n.number else e

-- and the remaining numbers
abbrev pub behind_first : Entry → List EntryNumber → List EntryNumber
behind_first e [] = []
behind_first e (n ∷ ns) = if is_number_of e n then ns else n ∷ ns

abbrev pub numbered : List Entry → List EntryNumber → List Entry
numbered [] ns = []
numbered (e ∷ es) ns = with_first e ns ∷ numbered es (behind_first e ns)

abbrev pub left_over : List Entry → List EntryNumber → List EntryNumber
left_over [] ns = ns
left_over (e ∷ es) ns = left_over es (behind_first e ns)
