-- The rows of one zone among those of all zones.
use Rattle.std.proofs.Common.{◌≡◌, ◌≢◌, inl, inr, List, [], ◌∷◌, ◌++◌, map, filter, true, true≢false, IsTrue}
use Rattle.std.proofs.Common.{append-nil, refl, sym, ap, ap₂, subst, ◌∙◌}
use Rattle.std.specs.Prelude.{find, Option, option_map}
use Rattle.std.specs.Option.{option_map_or}
use Rattle.std.specs.List.{AllByRecursion, flat_map}
use Rattle.std.specs.Str.{bytes_eq}
use Rattle.std.proofs.lemmas.Bool.{cases_Bool}
use Rattle.std.proofs.lemmas.List.Elements.{filter-append}
use Rattle.std.proofs.lemmas.Slice.Eq.{bytes_eq-Decides}
use Rattle.sqlite.specs.declared.types.Value.TheVariants as value
use Rattle.sqlite.specs.Order.{Row}
use Rattle.sqlite.specs.Tree.{IsAscending}
use Rattle.sqlite_trees.proofs.ListLemmas.{filter-map}
use Rattle.store_rows.specs.Rows.{has_key}
use Rattle.store_rows.proofs.Keys.{equals, and_true}
use Rattle.terms.proofs.TextOrder.{same_itself, other_text}
use Rattle.store_rows.proofs.RowLemmas.{filter_same, filter_all}
use Rattle.terms.specs.Types.{Text, Zone, NamedZone}
use Rattle.terms.specs.Lookups.{is_before}
use Rattle.terms.proofs.Each.{recursion_weaker}
use Rattle.store_schema.proofs.OneState.{IsBelow}
use Rattle.store_zones.specs.Held.{name_key}
use Rattle.store_schema.proofs.Spelled.{not_before_same}

-- the zone of a name, among these
abbrev pub zone_among : List NamedZone → Text → Option Zone
zone_among zones name = option_map (λ z. z.zone) (find (λ z. bytes_eq z.name name) zones)

pub first_cell : (name other : Text) (cells : Row) → has_key (name_key name) (value.Text other ∷ cells) ≡ bytes_eq other
    name
first_cell name other cells = and_true _ ∙ equals other name

module _ {X : Type 0} (row : Text → X → Row) (items : Zone → List X) (name : Text)
    (meets : (other : Text) (x : X) → has_key (name_key name) (row other x) ≡ bytes_eq other name) where
  abbrev pub rows_of_zones : List NamedZone → List Row
  rows_of_zones zones = flat_map (λ z. map (row z.name) (items z.zone)) zones

  own : (xs : List X) → filter (has_key (name_key name)) (map (row name) xs) ≡ map (row name) xs
  own xs = filter-map (has_key (name_key name)) (row name) xs
      ∙ ap (map (row name)) (filter_same _ (λ x. true) xs (λ x h. meets name x ∙ same_itself name) ∙ filter_all xs)

  others : (other : Text) → other ≢ name → (xs : List X) → filter (has_key (name_key name)) (map (row other) xs) ≡ []
  others other apart [] = refl
  others other apart (x ∷ xs) = rw (meets other x ∙ other_text other name apart) (others other apart xs)

  none_named : (zones : List NamedZone) → AllByRecursion (λ z. z.name ≢ name) zones
      → filter (has_key (name_key name)) (rows_of_zones zones) ≡ []
  none_named [] h = refl
  none_named (z ∷ zones) h =
      filter-append (has_key (name_key name)) (map (row z.name) (items z.zone)) (rows_of_zones zones)
      ∙ ap₂ ◌++◌ (others z.name h.0 (items z.zone)) (none_named zones h.1)

  -- those that have the name as their key are the zone's
  pub of_zone : (zones : List NamedZone) → IsAscending (IsBelow (λ (z : NamedZone). z.name)) zones
      → filter (has_key (name_key name)) (rows_of_zones zones) ≡ map (row name)
      (option_map_or items (zone_among zones name) [])
  of_zone [] rise = refl
  of_zone (z ∷ zones) rise = elim (cases_Bool (bytes_eq z.name name)) [
    | inl e ↦
        let same : z.name ≡ name = (bytes_eq-Decides z.name name).0 e in
        let mine : filter (has_key (name_key name)) (map (row z.name) (items z.zone)) ≡ map (row name) (items z.zone) =
        subst (λ n. filter (has_key (name_key name)) (map (row n) (items z.zone)) ≡ map (row name) (items z.zone))
        (sym same) (own (items z.zone)) in
        let behind = recursion_weaker (λ (w : NamedZone). IsTrue (is_before z.name w.name)) (λ w. w.name ≢ name)
        (λ w low here. not_before_same z.name w.name (same ∙ sym here) low) zones rise.0 in
        let found : option_map_or items (zone_among (z ∷ zones) name) [] ≡ items z.zone = rw e refl in
        filter-append (has_key (name_key name)) (map (row z.name) (items z.zone)) (rows_of_zones zones)
        ∙ ap₂ ◌++◌ mine (none_named zones behind) ∙ append-nil _ ∙ ap (map (row name)) (sym found)
    | inr e ↦
        let apart : z.name ≢ name = λ same. true≢false (sym ((bytes_eq-Decides z.name name).1 same) ∙ e) in
        let found : option_map_or items (zone_among (z ∷ zones) name) [] ≡ option_map_or items (zone_among zones name)
        [] = rw e refl in
        filter-append (has_key (name_key name)) (map (row z.name) (items z.zone)) (rows_of_zones zones)
        ∙ ap₂ ◌++◌ (others z.name apart (items z.zone)) (of_zone zones rise.1) ∙ ap (map (row name)) (sym found)
  ]
