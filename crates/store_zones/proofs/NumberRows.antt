-- The rows of the numbers of new entries.
use Rattle.std.proofs.Common.{◌≡◌, ◌≢◌, ◌==◌, ℕ, Bool, true, false, if◌then◌else◌, List, [], ◌∷◌, ◌++◌, map, Option}
use Rattle.std.proofs.Common.{None, Some, take, get_or, ◌<◌, ◌+◌, length, refl, sym, ap, ap₂, ◌∙◌, append-nil}
use Rattle.std.specs.List.{AllByRecursion, flat_map}
use Rattle.std.specs.Option.{option_map_or}
use Rattle.std.proofs.lemmas.Grind.{flat_map-append}
use Rattle.std.proofs.lemmas.List.{map-append}
use Rattle.sqlite.specs.Order.{Row}
use Rattle.terms.proofs.Each.{recursion_append}
use Rattle.terms.proofs.Lists.{front_more}
use Rattle.terms.specs.Types.{Text, Applied, Entry}
use Rattle.zones_maps.specs.Delta.{number_of}
use Rattle.store_rows.specs.Rows.{as_bound}
use Rattle.store_rows.specs.Texts.{SuitColumns}
use Rattle.store_schema.specs.Rows.{chosen_row, chosen_in}
use Rattle.store_schema.specs.Tables.{chosen}
use Rattle.store_schema.proofs.Numbered.{other_one}
use Rattle.store_zones.proofs.RowForms.{kept_chosen}

-- their columns keep them
one_kept : (zone : Text) (e : Entry) → AllByRecursion (SuitColumns chosen.columns) (chosen_in zone e)
one_kept zone e = by e.applied
  where
    of : (n : ℕ) (b : Bool)
        → AllByRecursion (SuitColumns chosen.columns) (if b then [] else chosen_row zone e.id n ∷ [])
    of n true = tt
    of n false = (kept_chosen zone e.id n, tt)

    by : (o : Option Applied) → AllByRecursion (SuitColumns chosen.columns)
        (option_map_or (λ a. if a.number == 1 then [] else chosen_row zone e.id a.number ∷ []) o [])
    by None = tt
    by (Some a) = of a.number (a.number == 1)

pub numbers_kept : (zone : Text) (es : List Entry)
    → AllByRecursion (SuitColumns chosen.columns) (flat_map (chosen_in zone) es)
numbers_kept zone [] = tt
numbers_kept zone (e ∷ es) =
    recursion_append (SuitColumns chosen.columns) (chosen_in zone e) (flat_map (chosen_in zone) es) (one_kept zone e)
    (numbers_kept zone es)

-- an entry has a row if its number is not 1
rows_by : (zone : Text) (e : Entry)
    → chosen_in zone e ≡ (if number_of e == 1 then [] else chosen_row zone e.id (number_of e) ∷ [])
rows_by zone e = by e.applied
  where
    by : (o : Option Applied)
        → option_map_or (λ a. if a.number == 1 then [] else chosen_row zone e.id a.number ∷ []) o []
        ≡ (if option_map_or (λ a. a.number) o 1 == 1 then []
        else chosen_row zone e.id (option_map_or (λ a. a.number) o 1) ∷ [])
    by None = refl
    by (Some a) = refl

first_row : (zone : Text) (e : Entry) (n : ℕ) → n ≡ number_of e → n ≡ 1 → chosen_in zone e ≡ []
first_row zone e n is one =
    rows_by zone e ∙ ap (λ k. if k == 1 then [] else chosen_row zone e.id k ∷ []) (sym is ∙ one)

other_row : (zone : Text) (e : Entry) (n : ℕ) → n ≡ number_of e → n ≢ 1
    → chosen_in zone e ≡ chosen_row zone e.id n ∷ []
other_row zone e n is other =
    rows_by zone e ∙ ap (λ k. if k == 1 then [] else chosen_row zone e.id k ∷ []) (sym is)
    ∙ ap (λ b. if b then [] else chosen_row zone e.id n ∷ []) (other_one n other)

-- ---- an entry more

module _ {Y : Type 0} (zone : Text) (now : Y → Entry) (entries : List Y) (i : ℕ) (entry : Y)
    (within : i < length entries) (at : entry ≡ get_or entries i entry) (n : ℕ) (is : n ≡ number_of (now entry)) where
  abbrev rows_to : ℕ → List Row
  rows_to k = flat_map (chosen_in zone) (map now (take k entries))

  one_more : rows_to (i + 1) ≡ rows_to i ++ chosen_in zone (now entry)
  one_more =
      ap (λ es. flat_map (chosen_in zone) (map now es)) (front_more entries i entry within at)
      ∙ ap (flat_map (chosen_in zone)) (map-append now (take i entries) (entry ∷ []))
      ∙ flat_map-append (chosen_in zone) (map now (take i entries)) (now entry ∷ [])
      ∙ ap (λ rows. rows_to i ++ rows) (append-nil (chosen_in zone (now entry)))

  pub number_skipped : (rows : List Row) → n ≡ 1 → map as_bound rows ≡ rows_to i → map as_bound rows ≡ rows_to (i + 1)
  number_skipped rows one before =
      before ∙ sym (one_more ∙ ap (λ l. rows_to i ++ l) (first_row zone (now entry) n is one)
      ∙ append-nil (rows_to i))

  pub number_pushed : (rows : List Row) (cells : Row) → n ≢ 1 → map as_bound rows ≡ rows_to i
      → as_bound cells ≡ chosen_row zone (now entry).id n → map as_bound (rows ++ cells ∷ []) ≡ rows_to (i + 1)
  number_pushed rows cells other before bound =
      map-append as_bound rows (cells ∷ []) ∙ ap₂ (λ xs y. xs ++ y ∷ []) before bound
      ∙ sym (one_more ∙ ap (λ l. rows_to i ++ l) (other_row zone (now entry) n is other))
