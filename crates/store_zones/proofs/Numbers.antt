-- The rows of the numbers of entries, when the entries of one id change.
use Rattle.std.proofs.Common.{◌≡◌, ◌==◌, ℕ, List, [], ◌∷◌, ◌++◌, map, filter, Bool, true, false, not, Option}
use Rattle.std.proofs.Common.{None, Some, IfSome, if◌then◌else◌, IsPermutation, refl, sym, ap, subst, ◌∙◌, append-nil}
use Rattle.std.specs.Prelude.{option_map}
use Rattle.std.specs.List.{flat_map}
use Rattle.std.specs.Option.{option_map_or, option_to_list}
use Rattle.std.specs.Str.{bytes_eq}
use Rattle.std.proofs.lemmas.Grind.{flat_map-append}
use Rattle.std.proofs.lemmas.List.Elements.{filter-append}
use Rattle.sqlite.specs.Order.{Row}
use Rattle.sqlite_trees.proofs.ListLemmas.{IsPermutation-flat_map, flat_map_same_on}
use Rattle.terms.specs.Types.{Text, Id, Applied, Entry, NamedZone}
use Rattle.zones_maps.specs.Delta.{number_of}
use Rattle.store_schema.specs.Rows.{chosen_row, chosen_of}
use Rattle.store_zones.specs.declared.installed_vers.EntryNumber.{EntryNumber}
use Rattle.store_zones.specs.Chosen.{number_before, number_row}
use Rattle.store_zones.specs.Numbered.{number_in, numbers_of}
use Rattle.store_zones.specs.Zones.{entries_but}
use Rattle.store_zones.proofs.EntryNumbers.{number_rows}

-- the row of the number of an id
abbrev pub row_of : Text → Id → ℕ → List Row
row_of name id n = if n == 1 then [] else chosen_row name id n ∷ []

-- the number of an entry that is installed by this one
abbrev as_number : Entry → ℕ → EntryNumber
as_number e n = record { id = e.id; number = n }

-- the number before a change, of what stood under an id
abbrev pub number_at : Option Entry → ℕ
number_at stood = number_before (option_map number_of stood)

-- the row of the number of the entry of the id, if there is one
pub rows_by_number : (name : Text) (id : Id) (o : Option Entry) → IfSome o (λ e. e.id ≡ id)
    → map (number_row name) (numbers_of (option_to_list o)) ≡ row_of name id (number_at o)
rows_by_number name id None here = refl
rows_by_number name id (Some e) here =
    rw (← here) (ap (map (number_row name)) (append-nil (number_in e)) ∙ by e.applied)
  where
    of : (n : ℕ) (b : Bool)
        → map (number_row name) (if b then [] else as_number e n ∷ [])
        ≡ (if b then [] else chosen_row name e.id n ∷ [])
    of n true = refl
    of n false = refl

    by : (o : Option Applied)
        → map (number_row name) (option_map_or (λ a. if a.number == 1 then [] else as_number e a.number ∷ []) o [])
        ≡ row_of name e.id (option_map_or (λ a. a.number) o 1)
    by None = refl
    by (Some a) = of a.number (a.number == 1)

pub chosen_are : (zones : List NamedZone)
    → flat_map chosen_of zones ≡ flat_map (λ z. map (number_row z.name) (numbers_of z.zone.entries)) zones
chosen_are zones = flat_map_same_on chosen_of (λ (z : NamedZone). map (number_row z.name) (numbers_of z.zone.entries))
    (λ z. number_rows z.name z.zone.entries) zones

-- ---- the entries of other ids

abbrev others : Id → EntryNumber → Bool
others id n = not (bytes_eq n.id id)

number_kept : (id : Id) (e : Entry) (b : Bool) → bytes_eq e.id id ≡ b
    → filter (others id) (number_in e) ≡ (if b then [] else number_in e)
number_kept id e b is = by e.applied
  where
    kept : (n : ℕ) (c : Bool) → bytes_eq e.id id ≡ c
        → filter (others id) (as_number e n ∷ []) ≡ (if c then [] else as_number e n ∷ [])
    kept n true same = rw same refl
    kept n false same = rw same refl

    none : List EntryNumber
    none = []

    empty : (c : Bool) → none ≡ (if c then none else none)
    empty true = refl
    empty false = refl

    of : (n : ℕ) (one : Bool)
        → filter (others id) (if one then [] else as_number e n ∷ [])
        ≡ (if b then [] else (if one then [] else as_number e n ∷ []))
    of n true = empty b
    of n false = kept n b is

    by : (o : Option Applied)
        → filter (others id) (option_map_or (λ a. if a.number == 1 then [] else as_number e a.number ∷ []) o [])
        ≡ (if b then [] else option_map_or (λ a. if a.number == 1 then [] else as_number e a.number ∷ []) o [])
    by None = empty b
    by (Some a) = of a.number (a.number == 1)

pub numbers_but : (id : Id) (entries : List Entry)
    → numbers_of (entries_but id entries) ≡ filter (λ n. not (bytes_eq n.id id)) (numbers_of entries)
numbers_but id [] = refl
numbers_but id (e ∷ entries) = by (bytes_eq e.id id) refl (numbers_but id entries)
  where
    rest : List EntryNumber
    rest = filter (others id) (numbers_of entries)

    split : filter (others id) (numbers_of (e ∷ entries)) ≡ filter (others id) (number_in e) ++ rest
    split = filter-append (others id) (number_in e) (numbers_of entries)

    by : (b : Bool) → bytes_eq e.id id ≡ b
        → numbers_of (entries_but id entries) ≡ filter (λ n. not (bytes_eq n.id id)) (numbers_of entries)
        → numbers_of (entries_but id (e ∷ entries)) ≡ filter (λ n. not (bytes_eq n.id id)) (numbers_of (e ∷ entries))
    by true same more =
        let left : numbers_of (entries_but id (e ∷ entries)) ≡ numbers_of (entries_but id entries) = rw same refl in
        left ∙ more ∙ sym (split ∙ ap (λ xs. xs ++ rest) (number_kept id e true same))
    by false same more =
        let left : numbers_of (entries_but id (e ∷ entries)) ≡ number_in e ++ numbers_of (entries_but id entries) =
        rw same refl in
        left ∙ ap (λ xs. number_in e ++ xs) more
        ∙ sym (split ∙ ap (λ xs. xs ++ rest) (number_kept id e false same))

-- what the new entries are, but for their order, says what their numbers are
pub numbers_with : (id : Id) (front olds news : List Entry) → IsPermutation news (front ++ entries_but id olds)
    → IsPermutation (numbers_of news) (numbers_of front ++ filter (λ n. not (bytes_eq n.id id)) (numbers_of olds))
numbers_with id front olds news same =
    subst (IsPermutation (numbers_of news))
    (flat_map-append number_in front (entries_but id olds) ∙ ap (λ xs. numbers_of front ++ xs) (numbers_but id olds))
    (IsPermutation-flat_map number_in news (front ++ entries_but id olds) same)
