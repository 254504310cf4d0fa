-- What the tables hold when a zone's entries or elements change.
use Rattle.std.proofs.Common.{◌≡◌, ◌≢◌, List, [], ◌∷◌, ◌++◌, map, filter, Bool, not, ◌&&◌, IsPermutation, refl, sym}
use Rattle.std.proofs.Common.{ap, ap₂, subst, subst₂, ◌∙◌, Option, None, Some, IfSome, is_some, slice_get}
use Rattle.std.specs.Prelude.{ℕ, option_map}
use Rattle.std.specs.List.{AllByRecursion, flat_map}
use Rattle.std.specs.Option.{option_to_list}
use Rattle.std.specs.Str.{bytes_eq}
use Rattle.std.proofs.lemmas.Grind.{flat_map-append}
use Rattle.std.proofs.lemmas.List.{append_assoc, map-append}
use Rattle.std.proofs.lemmas.List.Sorted.{IsPermutation-refl, IsPermutation-map, IsPermutation-middle}
use Rattle.std.proofs.lemmas.List.Sorted.{IsPermutation-sym, IsPermutation-trans, IsPermutation-cons}
use Rattle.std.proofs.lemmas.List.Sorted.{IsPermutation-filter_both}
use Rattle.std.proofs.lemmas.List.Sorted.{IsPermutation-append_left, IsPermutation-append_right}
use Rattle.sqlite.specs.Order.{Row}
use Rattle.sqlite.specs.Table.{Table}
use Rattle.sqlite.specs.Effect.{Database}
use Rattle.sqlite_trees.proofs.ListLemmas.{filter-map, IsPermutation-flat_map}
use Rattle.terms.specs.declared.kinds.ElemType.{ElemType}
use Rattle.terms.specs.Types as terms
use Rattle.terms.specs.Types.{Entry, Element, Zone, NamedZone}
use Rattle.terms.specs.Spelling.{type_text}
use Rattle.zones_maps.specs.Delta.{number_of}
use Rattle.store_rows.specs.Rows.{Contents, has_key, without, with_row, with_rows, in_table, HasContents}
use Rattle.store_rows.proofs.RowLemmas.{filter_same, filter_all, same_rows}
use Rattle.store_rows.proofs.ContentsLemmas.{permuted}
use Rattle.store_rows.proofs.Keys.{equals, and_true}
use Rattle.terms.proofs.Searches.{find_passes, first_kept}
use Rattle.terms.proofs.TextOrder.{same_from, same_itself, other_text}
use Rattle.store_rows.proofs.Parts.{map_same, flat_same, changed, moved_front}
use Rattle.store_schema.specs.Inventory.{Inventory}
use Rattle.store_schema.specs.Rows.{zone_row, entry_row, zelem_row, entries_of, zelems_of, chosen_in, chosen_of}
use Rattle.store_schema.specs.Stands.{rows_of}
use Rattle.store_schema.specs.Tables.{store_schema, meta, sysmod, ver, ifreq, hold, elem, source, morever, moreif}
use Rattle.store_schema.specs.Tables.{entry, chosen, zelem, zone as zone_table}
use Rattle.store_schema.proofs.Spelled.{types_alike}
use Rattle.store_zones.specs.Elements.{element_key}
use Rattle.store_zones.specs.Entries.{entry_key}
use Rattle.store_zones.specs.declared.installed_vers.EntryNumber.{EntryNumber}
use Rattle.store_zones.specs.Chosen.{number_before, number_row}
use Rattle.store_zones.specs.Numbered.{numbers_of}
use Rattle.store_zones.specs.Zones.{IsZoneChange, HasEntry, is_element, entries_but, elements_but, HasPutEntry}
use Rattle.store_zones.specs.Zones.{HasRemovedEntry, HasPutElement, HasRemovedElement, numbered, rows_with}
use Rattle.store_zones.specs.Zones.{HasMoreEntries, HasMoreElements, with_more_entries, with_more_elements}
use Rattle.store_zones.specs.Zones.{with_entry, without_entry, with_element}
use Rattle.store_zones.proofs.ByNumber.{renumbered}
use Rattle.store_zones.proofs.Numbers.{row_of, number_at, chosen_are, rows_by_number, numbers_with}

-- ---- keys

entry_meets : (other name : terms.Text) (id : terms.Id) (e : Entry)
    → has_key (entry_key name id) (entry_row other e) ≡ (bytes_eq other name && bytes_eq e.id id)
entry_meets other name id e = ap₂ ◌&&◌ (equals other name) (and_true _ ∙ equals e.id id)

number_meets : (other name : terms.Text) (id : terms.Id) (n : EntryNumber)
    → has_key (entry_key name id) (number_row other n) ≡ (bytes_eq other name && bytes_eq n.id id)
number_meets other name id n = ap₂ ◌&&◌ (equals other name) (and_true _ ∙ equals n.id id)

element_meets : (other name : terms.Text) (type : ElemType) (x : terms.Text) (e : Element)
    → has_key (element_key name type x) (zelem_row other e) ≡ (bytes_eq other name && is_element type x e)
element_meets other name type x e = ap₂ ◌&&◌ (equals other name)
    (ap₂ ◌&&◌ (equals (type_text e.elem_type) (type_text type) ∙ types_alike e.elem_type type)
    (and_true _ ∙ equals e.name x))

-- ---- rows of one zone

module _ {X : Type 0} (row : terms.Text → X → Row) (name : terms.Text) (key : Row) (test : X → Bool)
    (meets : (other : terms.Text) (x : X) → has_key key (row other x) ≡ (bytes_eq other name && test x)) where
  -- of the zone's own rows those go that pass the test
  own_left : (xs : List X) → without key (map (row name) xs) ≡ map (row name) (filter (λ x. not (test x)) xs)
  own_left xs =
      filter-map (λ r. not (has_key key r)) (row name) xs
      ∙ ap (map (row name)) (filter_same _ _ xs (λ x h. ap not
      (meets name x ∙ ap (λ b. b && test x) (same_itself name))))

  -- and none of another zone's
  others_left : (other : terms.Text) → other ≢ name → (xs : List X)
      → without key (map (row other) xs) ≡ map (row other) xs
  others_left other apart xs =
      filter-map (λ r. not (has_key key r)) (row other) xs
      ∙ ap (map (row other)) (filter_same _ _ xs (λ x h. ap not
      (meets other x ∙ ap (λ b. b && test x) (other_text other name apart))) ∙ filter_all xs)

  pub all_left : (items : Zone → List X) (zones : List NamedZone) → AllByRecursion (λ z. z.name ≢ name) zones
      → AllByRecursion (λ z. without key (map (row z.name) (items z.zone)) ≡ map (row z.name) (items z.zone)) zones
  all_left items [] h = tt
  all_left items (z ∷ zones) h = (others_left z.name h.0 (items z.zone), all_left items zones h.1)

  pub rows_changed : (items : Zone → List X) (before after : List NamedZone) (old new : Zone) (news : List X)
      → AllByRecursion (λ z. z.name ≢ name) (before ++ after)
      → IsPermutation (items new) (news ++ filter (λ x. not (test x)) (items old))
      → IsPermutation (flat_map (λ z. map (row z.name) (items z.zone))
      (before ++ record { name = name; zone = new } ∷ after))
      (map (row name) news ++ without key (flat_map (λ z. map (row z.name) (items z.zone))
      (before ++ record { name = name; zone = old } ∷ after)))
  rows_changed items before after old new news others same =
      let mapped = IsPermutation-map (row name) _ _ same in
      let left : map (row name) (news ++ filter (λ x. not (test x)) (items old)) ≡ map (row name) news
      ++ without key (map (row name) (items old)) =
      map-append (row name) news _ ∙ ap (λ rs. map (row name) news ++ rs) (sym (own_left (items old))) in
      changed (λ (z : NamedZone). map (row z.name) (items z.zone)) (λ r. not (has_key key r)) before
      (record { name = name; zone = old }) (record { name = name; zone = new }) after (map (row name) news)
      (all_left items (before ++ after) others) (subst (IsPermutation (map (row name) (items new))) left mapped)

-- ---- more of them

-- an element has more rows, and the others have theirs
flat_more : {A B : Type 0} (f : A → List B) (before : List A) (a b : A) (after : List A) (news : List B)
    → IsPermutation (f b) (news ++ f a)
    → IsPermutation (flat_map f (before ++ b ∷ after)) (news ++ flat_map f (before ++ a ∷ after))
flat_more f [] a b after news same =
    subst (IsPermutation (f b ++ flat_map f after)) (append_assoc news (f a) (flat_map f after))
    (IsPermutation-append_left (flat_map f after) (f b) (news ++ f a) same)
flat_more f (z ∷ before) a b after news same =
    IsPermutation-trans _ _ _ (IsPermutation-append_right (f z) _ _ (flat_more f before a b after news same))
    (moved_front (f z) news (flat_map f (before ++ a ∷ after)))

-- ---- what stood under a key

-- the items are what stood there and the others
parted : {X : Type 0} (p : X → Bool) (stood : Option X) (xs : List X) → filter p xs ≡ option_to_list stood
    → IsPermutation xs (option_to_list stood ++ filter (λ x. not (p x)) xs)
parted p stood xs had =
    subst (λ front. IsPermutation xs (front ++ filter (λ x. not (p x)) xs)) had
    (IsPermutation-filter_both p (λ x. not (p x)) (λ x. refl) xs)

-- and it has the key
of_key : {X : Type 0} (key : X → terms.Id) (k : terms.Id) (stood : Option X) (xs : List X)
    → filter (λ x. bytes_eq (key x) k) xs ≡ option_to_list stood → IfSome stood (λ x. key x ≡ k)
of_key key k None xs had = tt
of_key {X} key k (Some x) xs had =
    let p : X → Bool = λ y. bytes_eq (key y) k in
    same_from (key x) k (find_passes p xs x (sym (first_kept p xs) ∙ ap (λ ys. slice_get ys 0) had))

-- a row is put
row_put : {X : Type 0} (row : X → Row) (key new : Row) (stood : Option X) (olds news : List Row)
    → IsPermutation olds (map row (option_to_list stood) ++ without key olds)
    → IsPermutation news (new ∷ without key olds) → IsPermutation news (rows_with (is_some stood) key new olds)
row_put row key new None olds news had is =
    IsPermutation-trans _ _ _ is (IsPermutation-cons new _ _ (IsPermutation-sym _ _ had))
row_put row key new (Some x) olds news had is = is

is_mapped : {X Y : Type 0} (f : X → Y) (o : Option X) → is_some o ≡ is_some (option_map f o)
is_mapped f None = refl
is_mapped f (Some x) = refl

-- ---- all tables

-- the tables that hold no rows of zones
abbrev other_tables : List Table
other_tables = meta ∷ sysmod ∷ ver ∷ ifreq ∷ hold ∷ elem ∷ source ∷ morever ∷ moreif ∷ []

-- these hold the same, and those of zones hold these rows in another order
zone_tables : (c d : Contents) → AllByRecursion (λ t. IsPermutation (d t.tree) (c t.tree)) other_tables
    → IsPermutation (d zone_table.tree) (c zone_table.tree) → IsPermutation (d entry.tree) (c entry.tree)
    → IsPermutation (d zelem.tree) (c zelem.tree) → IsPermutation (d chosen.tree) (c chosen.tree)
    → AllByRecursion (λ t. IsPermutation (d t.tree) (c t.tree)) store_schema.tables
zone_tables c d others on_zone on_entry on_zelem on_chosen =
    let at_ver = others.1.1 in
    let at_hold = at_ver.1.1 in
    let at_source = at_hold.1.1 in (
      others.0,
      (
        others.1.0,
        (
          at_ver.0,
          (
            at_ver.1.0,
            (
              at_hold.0,
              (
                at_hold.1.0,
                (
                  on_zone,
                  (
                    on_entry,
                    (
                      on_zelem,
                      (
                        at_source.0,
                        (at_source.1.0, (at_source.1.1.0, (on_chosen, tt))),
                      ),
                    ),
                  ),
                ),
              ),
            ),
          ),
        ),
      ),
    )

same_order : (rows : List Row) → IsPermutation rows rows
same_order = IsPermutation-refl

-- what they hold tells the global zone alone
same_others : (i j : Inventory) → j.global ≡ i.global
    → AllByRecursion (λ t. IsPermutation (rows_of j t.tree) (rows_of i t.tree)) other_tables
same_others i j global = rw global (
  same_order _,
  (
    same_order _,
    (
      same_order _,
      (
        same_order _,
        (
          same_order _,
          (
            same_order _,
            (same_order _, (same_order _, (same_order _, tt))),
          ),
        ),
      ),
    ),
  ),
)

-- two inventories whose rows are those of the first in all tables but entry and chosen, or zelem
module _ (i j : Inventory) (global : j.global ≡ i.global) (zones : map zone_row j.zones ≡ map zone_row i.zones) where
  pub with_entries : (make choose : List Row → List Row) → flat_map zelems_of j.zones ≡ flat_map zelems_of i.zones
      → IsPermutation (flat_map entries_of j.zones) (make (flat_map entries_of i.zones))
      → IsPermutation (flat_map chosen_of j.zones) (choose (flat_map chosen_of i.zones))
      → AllByRecursion (λ t. IsPermutation (rows_of j t.tree)
      (in_table chosen choose (in_table entry make (rows_of i)) t.tree)) store_schema.tables
  with_entries make choose elements entries numbered =
      zone_tables (in_table chosen choose (in_table entry make (rows_of i))) (rows_of j) (same_others i j global)
      (same_rows zones) entries (same_rows elements) numbered

  pub with_elements : (make : List Row → List Row) → flat_map entries_of j.zones ≡ flat_map entries_of i.zones
      → flat_map chosen_of j.zones ≡ flat_map chosen_of i.zones
      → IsPermutation (flat_map zelems_of j.zones) (make (flat_map zelems_of i.zones))
      → AllByRecursion (λ t. IsPermutation (rows_of j t.tree) (in_table zelem make (rows_of i) t.tree))
      store_schema.tables
  with_elements make entries numbered elements =
      zone_tables (in_table zelem make (rows_of i)) (rows_of j) (same_others i j global) (same_rows zones)
      (same_rows entries) elements (same_rows numbered)

-- ---- one zone becomes another

module _ (i j : Inventory) (name : terms.Text) (was is : Zone) (c : IsZoneChange name was is i j) where
  abbrev old_zone : NamedZone
  old_zone = record { name = name; zone = was }

  abbrev new_zone : NamedZone
  new_zone = record { name = name; zone = is }

  globals : j.global ≡ i.global
  globals = ap (λ (k : Inventory). k.global) c.is

  same_zones : zone_row new_zone ≡ zone_row old_zone → map zone_row j.zones ≡ map zone_row i.zones
  same_zones e = ap (λ (k : Inventory). map zone_row k.zones) c.is
      ∙ map_same zone_row c.before new_zone old_zone c.after e ∙ ap (map zone_row) (sym c.was)

  same_in : (f : NamedZone → List Row) → f new_zone ≡ f old_zone → flat_map f j.zones ≡ flat_map f i.zones
  same_in f e = ap (λ (k : Inventory). flat_map f k.zones) c.is ∙ flat_same f c.before new_zone old_zone c.after e
      ∙ ap (flat_map f) (sym c.was)

  changed_in : (f : NamedZone → List Row) (make : List Row → List Row)
      → IsPermutation (flat_map f (c.before ++ new_zone ∷ c.after)) (make (flat_map f (c.before ++ old_zone ∷ c.after)))
      → IsPermutation (flat_map f j.zones) (make (flat_map f i.zones))
  changed_in f make h = subst₂ IsPermutation (sym (ap (λ (k : Inventory). flat_map f k.zones) c.is))
      (ap (λ zs. make (flat_map f zs)) (sym c.was)) h

  by_entries : (make choose : List Row → List Row) → is ≡ record was { entries = is.entries }
      → IsPermutation (flat_map entries_of (c.before ++ new_zone ∷ c.after))
      (make (flat_map entries_of (c.before ++ old_zone ∷ c.after)))
      → IsPermutation (flat_map chosen_of (c.before ++ new_zone ∷ c.after))
      (choose (flat_map chosen_of (c.before ++ old_zone ∷ c.after)))
      → AllByRecursion (λ t. IsPermutation (rows_of j t.tree)
      (in_table chosen choose (in_table entry make (rows_of i)) t.tree)) store_schema.tables
  by_entries make choose rest h k =
      with_entries i j globals (same_zones (ap (λ z. zone_row (record { name = name; zone = z })) rest)) make choose
      (same_in zelems_of (ap (λ z. zelems_of (record { name = name; zone = z })) rest)) (changed_in entries_of make h)
      (changed_in chosen_of choose k)

  by_elements : (make : List Row → List Row) → is ≡ record was { elements = is.elements }
      → IsPermutation (flat_map zelems_of (c.before ++ new_zone ∷ c.after))
      (make (flat_map zelems_of (c.before ++ old_zone ∷ c.after)))
      → AllByRecursion (λ t. IsPermutation (rows_of j t.tree) (in_table zelem make (rows_of i) t.tree))
      store_schema.tables
  by_elements make rest h =
      with_elements i j globals (same_zones (ap (λ z. zone_row (record { name = name; zone = z })) rest)) make
      (same_in entries_of (ap (λ z. entries_of (record { name = name; zone = z })) rest))
      (same_in chosen_of (ap (λ z. chosen_of (record { name = name; zone = z })) rest)) (changed_in zelems_of make h)

  -- the zone has more entries
  pub entries_more : (news : List Entry) (db : Database) → HasMoreEntries news was is
      → HasContents store_schema (with_more_entries name news (rows_of i)) db → HasContents store_schema (rows_of j) db
  entries_more news db p =
      let rows : IsPermutation (map (entry_row name) is.entries) (map (entry_row name) news
      ++ map (entry_row name) was.entries) =
      subst (IsPermutation (map (entry_row name) is.entries)) (map-append (entry_row name) news was.entries)
      (IsPermutation-map (entry_row name) is.entries (news ++ was.entries) p.entries) in
      let numbers : IsPermutation (flat_map (chosen_in name) is.entries) (flat_map (chosen_in name) news
      ++ flat_map (chosen_in name) was.entries) =
      subst (IsPermutation (flat_map (chosen_in name) is.entries)) (flat_map-append (chosen_in name) news was.entries)
      (IsPermutation-flat_map (chosen_in name) is.entries (news ++ was.entries) p.entries) in
      permuted store_schema (with_more_entries name news (rows_of i)) (rows_of j) db
      (by_entries (with_rows (map (entry_row name) news)) (with_rows (flat_map (chosen_in name) news)) p.rest
      (flat_more entries_of c.before old_zone new_zone c.after (map (entry_row name) news) rows)
      (flat_more chosen_of c.before old_zone new_zone c.after (flat_map (chosen_in name) news) numbers))

  -- or elements
  pub elements_more : (news : List Element) (db : Database) → HasMoreElements news was is
      → HasContents store_schema (with_more_elements name news (rows_of i)) db → HasContents store_schema (rows_of j) db
  elements_more news db p =
      let rows : IsPermutation (map (zelem_row name) is.elements) (map (zelem_row name) news
      ++ map (zelem_row name) was.elements) =
      subst (IsPermutation (map (zelem_row name) is.elements)) (map-append (zelem_row name) news was.elements)
      (IsPermutation-map (zelem_row name) is.elements (news ++ was.elements) p.elements) in
      permuted store_schema (with_more_elements name news (rows_of i)) (rows_of j) db
      (by_elements (with_rows (map (zelem_row name) news)) p.rest
      (flat_more zelems_of c.before old_zone new_zone c.after (map (zelem_row name) news) rows))

  -- what `entry` and `chosen` hold of a zone that has these entries of the id and its others
  entry_rows : (id : terms.Id) (front : List Entry) (zone : Zone)
      → IsPermutation zone.entries (front ++ entries_but id was.entries)
      → IsPermutation (flat_map entries_of (c.before ++ record { name = name; zone = zone } ∷ c.after))
      (map (entry_row name) front ++ without (entry_key name id) (flat_map entries_of (c.before ++ old_zone ∷ c.after)))
  entry_rows id front zone same =
      rows_changed entry_row name (entry_key name id) (λ x. bytes_eq x.id id)
      (λ other x. entry_meets other name id x) (λ z. z.entries) c.before c.after was zone front c.others same

  number_rows : (id : terms.Id) (o : Option Entry) (zone : Zone) → IfSome o (λ e. e.id ≡ id)
      → IsPermutation zone.entries (option_to_list o ++ entries_but id was.entries)
      → IsPermutation (flat_map chosen_of (c.before ++ record { name = name; zone = zone } ∷ c.after))
      (row_of name id (number_at o)
      ++ without (entry_key name id) (flat_map chosen_of (c.before ++ old_zone ∷ c.after)))
  number_rows id o zone here same =
      let front = option_to_list o in
      let rest = without (entry_key name id) (flat_map chosen_of (c.before ++ old_zone ∷ c.after)) in
      subst₂ IsPermutation (sym (chosen_are (c.before ++ record { name = name; zone = zone } ∷ c.after)))
      (ap (λ rows. map (number_row name) (numbers_of front) ++ without (entry_key name id) rows)
      (sym (chosen_are (c.before ++ old_zone ∷ c.after)))
      ∙ ap (λ rows. rows ++ rest) (rows_by_number name id o here))
      (rows_changed number_row name (entry_key name id) (λ n. bytes_eq n.id id)
      (λ other n. number_meets other name id n) (λ z. numbers_of z.entries) c.before c.after was zone (numbers_of front)
      c.others (numbers_with id front was.entries zone.entries same))

  -- the number of the id changes
  numbers_changed : (id : terms.Id) (stood o : Option Entry) → HasEntry id stood was → IfSome o (λ e. e.id ≡ id)
      → IsPermutation is.entries (option_to_list o ++ entries_but id was.entries)
      → IsPermutation (flat_map chosen_of (c.before ++ new_zone ∷ c.after))
      (numbered name id (number_at stood) (number_at o)
      (flat_map chosen_of (c.before ++ old_zone ∷ c.after)))
  numbers_changed id stood o had here same =
      renumbered name id (number_at stood) (number_at o) _ _
      (number_rows id stood was (of_key (λ (e : Entry). e.id) id stood was.entries had)
      (parted (λ (e : Entry). bytes_eq e.id id) stood was.entries had)) (number_rows id o is here same)

  -- `old` stood there, which was installed by this number
  pub entry_put : (old : Option Entry) (stood : Option ℕ) (e : Entry) (db : Database) → option_map number_of old ≡ stood
      → HasPutEntry old e was is → HasContents store_schema (with_entry name stood e (rows_of i)) db
      → HasContents store_schema (rows_of j) db
  entry_put old stood e db same p =
      let key = entry_key name e.id in
      let olds = flat_map entries_of (c.before ++ old_zone ∷ c.after) in
      let news = flat_map entries_of (c.before ++ new_zone ∷ c.after) in
      let rows = row_put (entry_row name) key (entry_row name e) old olds news
      (entry_rows e.id (option_to_list old) was (parted (λ (x : Entry). bytes_eq x.id e.id) old was.entries p.was))
      (entry_rows e.id (e ∷ []) is p.entries) in
      permuted store_schema (with_entry name stood e (rows_of i)) (rows_of j) db
      (by_entries (rows_with (is_some stood) key (entry_row name e))
      (numbered name e.id (number_before stood) (number_of e)) p.rest
      (subst (λ b. IsPermutation news (rows_with b key (entry_row name e) olds))
      (is_mapped number_of old ∙ ap is_some same) rows)
      (subst (λ n. IsPermutation (flat_map chosen_of (c.before ++ new_zone ∷ c.after))
      (numbered name e.id n (number_of e) (flat_map chosen_of (c.before ++ old_zone ∷ c.after))))
      (ap number_before same) (numbers_changed e.id old (Some e) p.was refl p.entries)))

  pub entry_removed : (old : Option Entry) (stood : Option ℕ) (id : terms.Id) (db : Database)
      → option_map number_of old ≡ stood → HasRemovedEntry old id was is
      → HasContents store_schema (without_entry name stood id (rows_of i)) db → HasContents store_schema (rows_of j) db
  entry_removed old stood id db same p =
      permuted store_schema (without_entry name stood id (rows_of i)) (rows_of j) db
      (by_entries (without (entry_key name id)) (numbered name id (number_before stood) 1) p.rest
      (entry_rows id [] is p.entries)
      (subst (λ n. IsPermutation (flat_map chosen_of (c.before ++ new_zone ∷ c.after))
      (numbered name id n 1 (flat_map chosen_of (c.before ++ old_zone ∷ c.after))))
      (ap number_before same) (numbers_changed id old None p.was tt p.entries)))

  -- what `zelem` holds of a zone that has these elements of the type and name and its others
  element_rows : (type : ElemType) (x : terms.Text) (front : List Element) (zone : Zone)
      → IsPermutation zone.elements (front ++ elements_but type x was.elements)
      → IsPermutation (flat_map zelems_of (c.before ++ record { name = name; zone = zone } ∷ c.after))
      (map (zelem_row name) front
      ++ without (element_key name type x) (flat_map zelems_of (c.before ++ old_zone ∷ c.after)))
  element_rows type x front zone same =
      rows_changed zelem_row name (element_key name type x) (is_element type x)
      (λ other y. element_meets other name type x y) (λ z. z.elements) c.before c.after was zone front c.others same

  -- whether one stood there
  pub element_put : (old : Option Element) (stood : Bool) (e : Element) (db : Database) → is_some old ≡ stood
      → HasPutElement old e was is → HasContents store_schema (with_element name stood e (rows_of i)) db
      → HasContents store_schema (rows_of j) db
  element_put old stood e db same p =
      let key = element_key name e.elem_type e.name in
      let olds = flat_map zelems_of (c.before ++ old_zone ∷ c.after) in
      let news = flat_map zelems_of (c.before ++ new_zone ∷ c.after) in
      permuted store_schema (with_element name stood e (rows_of i)) (rows_of j) db
      (by_elements (rows_with stood key (zelem_row name e)) p.rest
      (subst (λ b. IsPermutation news (rows_with b key (zelem_row name e) olds)) same
      (row_put (zelem_row name) key (zelem_row name e) old olds news
      (element_rows e.elem_type e.name (option_to_list old) was
      (parted (is_element e.elem_type e.name) old was.elements p.was))
      (element_rows e.elem_type e.name (e ∷ []) is p.elements))))

  pub element_removed : (type : ElemType) (x : terms.Text) (db : Database) → HasRemovedElement type x was is
      → HasContents store_schema (in_table zelem (without (element_key name type x)) (rows_of i)) db
      → HasContents store_schema (rows_of j) db
  element_removed type x db p =
      let key = element_key name type x in
      permuted store_schema (in_table zelem (without key) (rows_of i)) (rows_of j) db
      (by_elements (without key) p.rest (element_rows type x [] is p.elements))

-- ---- one more zone

module _ (global : terms.Global) (zone : NamedZone) where
  abbrev with_zones : List NamedZone → Inventory
  with_zones zones = record { global = global; zones = zones }

  flat_none : (f : NamedZone → List Row) → f zone ≡ [] → (before after : List NamedZone)
      → flat_map f (before ++ zone ∷ after) ≡ flat_map f (before ++ after)
  flat_none f e [] after = ap (λ rows. rows ++ flat_map f after) e
  flat_none f e (z ∷ before) after = ap (λ rows. f z ++ rows) (flat_none f e before after)

  pub zone_added : (before after : List NamedZone) (db : Database) → entries_of zone ≡ [] → zelems_of zone ≡ []
      → chosen_of zone ≡ [] → HasContents store_schema (in_table zone_table (with_row (zone_row zone))
      (rows_of (with_zones (before ++ after)))) db
      → HasContents store_schema (rows_of (with_zones (before ++ zone ∷ after))) db
  zone_added before after db no_entries no_elements no_numbers =
      let zones : IsPermutation (map zone_row (before ++ zone ∷ after)) (zone_row zone ∷ map zone_row (before ++ after))
      =
      IsPermutation-map zone_row _ _ (IsPermutation-middle before zone after) in
      let held = in_table zone_table (with_row (zone_row zone)) (rows_of (with_zones (before ++ after))) in
      let more = with_zones (before ++ zone ∷ after) in
      permuted store_schema held (rows_of more) db (zone_tables held (rows_of more)
      (same_others (with_zones (before ++ after)) more refl) zones
      (same_rows (flat_none entries_of no_entries before after))
      (same_rows (flat_none zelems_of no_elements before after))
      (same_rows (flat_none chosen_of no_numbers before after)))
