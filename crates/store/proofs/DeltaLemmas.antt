-- The edits of a zone, one after the other, and what they make of the inventory.
use Rattle.std.proofs.Common.{◌≡◌, ℕ, ◌+◌, ◌<◌, take, length, get_or, List, [], ◌∷◌, ◌++◌, IsPermutation, refl, sym, ap}
use Rattle.std.proofs.Common.{ap₂, subst, ◌∙◌, filter, map, IsTrue, Bool, true, false, not, Option, None, Some, is_some}
use Rattle.std.proofs.Common.{append-nil}
use Rattle.std.specs.Prelude.{All, option_map}
use Rattle.std.specs.List.{AllByRecursion, filter_map, zip}
use Rattle.std.specs.Option.{option_to_list}
use Rattle.std.specs.Ordering.{nat_cmp, is_lt}
use Rattle.std.specs.Str.{bytes_eq}
use Rattle.std.specs.Cmp.Lexicographic.{slice_cmp, texts_ties}
use Rattle.std.proofs.lemmas.Cmp.{nat_list_cmp_total}
use Rattle.std.proofs.lemmas.List.{length-map, map-append}
use Rattle.std.proofs.lemmas.List.Elements.{filter-append}
use Rattle.std.proofs.lemmas.List.Sorted.{IsPermutation-refl}
use Rattle.std.proofs.lemmas.List.Sums.{fold-append}
use Rattle.std.proofs.lemmas.Slice.Zip.{firsts-zip}
use Rattle.terms.proofs.Each.{All_middle}
use Rattle.terms.proofs.Lists.{front_more}
use Rattle.terms.proofs.Pairs.{AllPairs_front}
use Rattle.sqlite.specs.Store.{Ghosts}
use Rattle.sqlite.specs.Held.{Held, state}
use Rattle.terms.specs.declared.kinds.ElemType.{ElemType}
use Rattle.sorted.specs.declared.edits.Edit.{Edit}
use Rattle.sorted.specs.declared.edits.Edit.TheVariants.{Put, Remove}
use Rattle.terms.specs.Types.{Text, Id, Entry, Element, Zone}
use Rattle.terms.specs.Lookups.{IsZone, entry_of, element_of, element_cmp, element_key}
use Rattle.terms.specs.Rising.{Rises}
use Rattle.zones_maps.specs.Delta.{ZoneDelta, IsDelta, IsChanged, number_of, entry_stood, element_stood}
use Rattle.terms.specs.Lookups.{element_eq}
use Rattle.sorted.specs.Edits.{edit_key, after_edit}
use Rattle.sorted.proofs.Editing.{find_edited, Rises_edited}
use Rattle.terms.proofs.ElementOrder.{element_cmp_total, element_ties}
use Rattle.terms.proofs.SameLists.{rising_same}
use Rattle.store_rows.specs.Inside.{StaysInside}
use Rattle.store_rows.specs.Rows.{HasContents}
use Rattle.store_rows.proofs.InsideLemmas.{leads_then}
use Rattle.store_schema.specs.Inventory.{Inventory, IsInventory, IsZoneNamed}
use Rattle.store_schema.specs.Stands.{rows_of}
use Rattle.store_schema.specs.Tables.{store_schema}
use Rattle.store_zones.specs.Zones.{IsZoneChange, ChangesZone, HasPutEntry, HasRemovedEntry, HasPutElement}
use Rattle.store_zones.specs.Zones.{HasRemovedElement, HasMoreEntries, HasMoreElements, entries_but, elements_but}
use Rattle.store.specs.Calls.{new_entry, new_element}
use Rattle.store.specs.Writes.{entries_after, elements_after, HasEditedEntries, HasEditedElements, HasEdited}
use Rattle.store.specs.Writes.{EditsEntry, EditsElement, EditsOldEntry, EditsOldElement, EditsEntries, EditsElements}
use Rattle.store.specs.Writes.{others}
use Rattle.store.proofs.NewLast.{IsNewIn, new_last, others_rise}
use Rattle.store.proofs.Parts.{left_parts, put_parts}
use Rattle.store.proofs.Standing.{still_stands}

-- ---- one edit

entries_are : (edits : List (Edit Entry Id)) (was is : Zone) → HasEditedEntries edits was is
    → is.entries ≡ entries_after was.entries edits
entries_are edits was is h = ap (λ (z : Zone). z.entries) h

elements_are : (edits : List (Edit Element (ElemType × Text))) (was is : Zone) → HasEditedElements edits was is
    → is.elements ≡ elements_after was.elements edits
elements_are edits was is h = ap (λ (z : Zone). z.elements) h

entry_put : (zone : Zone) (e : Entry) (was is : Zone) → EditsEntry zone (Put e) was is
    → HasPutEntry (entry_of zone e.id) e was is
entry_put zone e was is h =
    let entries = entries_are (Put e ∷ []) was is h.is in
    record {
      was = h.was;
      rest = h.is ∙ ap (λ es. record was { entries = es }) (sym entries);
      entries = subst (λ es. IsPermutation es (e ∷ entries_but e.id was.entries)) (sym entries)
          (put_parts nat_list_cmp_total (λ (x : Entry). x.id) bytes_eq texts_ties e was.entries);
    }

-- the same, if the old one was installed by some number
pub old_entry_put : (zone : Zone) (e : Entry) (stood : Option ℕ) {number : ℕ} → stood ≡ Some number
    → (was is : Zone) → EditsOldEntry zone (Put e, stood) was is → HasPutEntry (entry_of zone e.id) e was is
old_entry_put zone e (Some number) there was is h = entry_put zone e was is h
old_entry_put zone e None there was is h = absurd cc

pub entry_removed : (zone : Zone) (id : Id) (was is : Zone) → EditsEntry zone (Remove id) was is
    → HasRemovedEntry (entry_of zone id) id was is
entry_removed zone id was is h =
    let entries = entries_are (Remove id ∷ []) was is h.is in
    record {
      was = h.was;
      rest = h.is ∙ ap (λ es. record was { entries = es }) (sym entries);
      entries = subst (λ es. IsPermutation es (entries_but id was.entries)) (sym entries)
          (left_parts nat_list_cmp_total (λ (x : Entry). x.id) bytes_eq texts_ties id was.entries);
    }

element_put : (zone : Zone) (e : Element) (was is : Zone) → EditsElement zone (Put e) was is
    → HasPutElement (element_of zone e.elem_type e.name) e was is
element_put zone e was is h =
    let elements = elements_are (Put e ∷ []) was is h.is in
    record {
      was = h.was;
      rest = h.is ∙ ap (λ es. record was { elements = es }) (sym elements);
      elements = subst (λ es. IsPermutation es (e ∷ elements_but e.elem_type e.name was.elements)) (sym elements)
          (put_parts element_cmp_total element_key element_eq element_ties e was.elements);
    }

-- the same, if there was an old one
pub old_element_put : (zone : Zone) (e : Element) (stood : Bool) → stood ≡ true
    → (was is : Zone) → EditsOldElement zone (Put e, stood) was is
    → HasPutElement (element_of zone e.elem_type e.name) e was is
old_element_put zone e true there was is h = element_put zone e was is h
old_element_put zone e false there was is h = absurd cc

pub element_removed : (zone : Zone) (type : ElemType) (name : Text) (was is : Zone)
    → EditsElement zone (Remove (type, name)) was is → HasRemovedElement type name was is
element_removed zone type name was is h =
    let elements = elements_are (Remove (type, name) ∷ []) was is h.is in
    record {
      rest = h.is ∙ ap (λ es. record was { elements = es }) (sym elements);
      elements = subst (λ es. IsPermutation es (elements_but type name was.elements)) (sym elements)
          (left_parts element_cmp_total element_key element_eq element_ties (type, name) was.elements);
    }

-- ---- what is new

-- an edit more
others_new : {X K B : Type 0} (new : Edit X K × B → Option X) (front : List (Edit X K × B)) (d : Edit X K × B) (x : X)
    → new d ≡ Some x → others new (front ++ d ∷ []) ≡ others new front
others_new {X} {K} {B} new front d x is =
    let p : Edit X K × B → Bool = λ c. not (is_some (new c)) in
    let none : filter p (d ∷ []) ≡ [] = rw is refl in
    ap (map (λ (c : Edit X K × B). c.0))
    (filter-append p front (d ∷ []) ∙ ap (λ ds. filter p front ++ ds) none ∙ append-nil (filter p front))

others_old : {X K B : Type 0} (new : Edit X K × B → Option X) (front : List (Edit X K × B)) (d : Edit X K × B)
    → new d ≡ None → others new (front ++ d ∷ []) ≡ others new front ++ d.0 ∷ []
others_old {X} {K} {B} new front d is =
    let p : Edit X K × B → Bool = λ c. not (is_some (new c)) in
    let own : filter p (d ∷ []) ≡ d ∷ [] = rw is refl in
    ap (map (λ (c : Edit X K × B). c.0)) (filter-append p front (d ∷ []) ∙ ap (λ ds. filter p front ++ ds) own)
    ∙ map-append (λ (c : Edit X K × B). c.0) (filter p front) (d ∷ [])

-- what the delta knows to be new has no other of its key in the zone
abbrev NewEntry : Zone → Edit Entry Id × Option ℕ → Type 0
NewEntry zone = IsNewIn nat_list_cmp_total (λ (e : Entry). e.id) bytes_eq texts_ties new_entry zone.entries

entry_new : (zone : Zone) (edit : Edit Entry Id) → NewEntry zone (edit, entry_stood zone edit)
entry_new zone (Remove id) = tt
entry_new zone (Put e) = by (entry_of zone e.id) refl
  where
    by : (found : Option Entry) → entry_of zone e.id ≡ found → NewEntry zone (Put e, entry_stood zone (Put e))
    by None none = subst (λ f. NewEntry zone (Put e, option_map number_of f)) (sym none) (refl, none)
    by (Some x) there = subst (λ f. NewEntry zone (Put e, option_map number_of f)) (sym there) tt

entries_new : (zone : Zone) (edits : List (Edit Entry Id))
    → AllByRecursion (NewEntry zone) (zip edits (map (entry_stood zone) edits))
entries_new zone [] = tt
entries_new zone (edit ∷ edits) = (entry_new zone edit, entries_new zone edits)

abbrev NewElement : Zone → Edit Element (ElemType × Text) × Bool → Type 0
NewElement zone = IsNewIn element_cmp_total element_key element_eq element_ties new_element zone.elements

element_new : (zone : Zone) (edit : Edit Element (ElemType × Text)) → NewElement zone (edit, element_stood zone edit)
element_new zone (Remove key) = tt
element_new zone (Put e) = by (element_of zone e.elem_type e.name) refl
  where
    by : (found : Option Element) → element_of zone e.elem_type e.name ≡ found
        → NewElement zone (Put e, element_stood zone (Put e))
    by None none = subst (λ f. NewElement zone (Put e, is_some f)) (sym none) (refl, none)
    by (Some x) there = subst (λ f. NewElement zone (Put e, is_some f)) (sym there) tt

elements_new : (zone : Zone) (edits : List (Edit Element (ElemType × Text)))
    → AllByRecursion (NewElement zone) (zip edits (map (element_stood zone) edits))
elements_new zone [] = tt
elements_new zone (edit ∷ edits) = (element_new zone edit, elements_new zone edits)

-- ---- one after the other

module _ {S : Type 0} (g : Ghosts S) (name : Text) where
  -- a relation that is a case of another
  pub changes_as : (a b : Held S) (P Q : Zone → Zone → Type 0) → ((was is : Zone) → Q was is → P was is)
      → ChangesZone g a b name P → ChangesZone g a b name Q
  changes_as a b P Q f h i j was is change q = h i j was is change (f was is q)

  pub changes_then : (a b c : Held S) (P Q R : Zone → Zone → Type 0)
      → ((was is : Zone) → R was is → (mid : Zone) × P was mid × Q mid is) → StaysInside g b c
      → ChangesZone g a b name P → ChangesZone g b c name Q → ChangesZone g a c name R
  changes_then a b c P Q R split inside one two i j was is change r =
      let it = split was is r in
      let mid = it.0 in
      let k : Inventory = record {
        global = i.global;
        zones =
            change.before ++ record { name = name; zone = mid } ∷ change.after;
      } in
      let first : IsZoneChange name was mid i k = record {
        before = change.before;
        after = change.after;
        was = change.was;
        is = refl;
        others = change.others;
      } in
      let second : IsZoneChange name mid is k j = record {
        before = change.before;
        after = change.after;
        was = refl;
        is = change.is;
        others = change.others;
      } in
      leads_then g a b c (HasContents store_schema (rows_of i)) (HasContents store_schema (rows_of k))
      (HasContents store_schema (rows_of j)) inside (one i k was mid first it.1) (two k j mid is second it.2)

  -- what has not changed stands for what it stood for
  pub unchanged : (a : Held S) (P : Zone → Zone → Type 0) → ((was is : Zone) → P was is → is ≡ was)
      → ChangesZone g a a name P
  unchanged a P same i j was is change p clean held =
      let put : Zone → Inventory = λ zone. record {
        global = i.global;
        zones = change.before ++ record { name = name; zone = zone } ∷ change.after;
      } in
      let back : j ≡ i = change.is ∙ ap put (same was is p)
      ∙ ap (λ zs. record { global = i.global; zones = zs }) (sym change.was) in
      subst (λ k. HasContents store_schema (rows_of k) (state g a).now) (sym back) held

  split_entries : (zone : Zone) (front : List (Edit Entry Id)) (edit : Edit Entry Id) (was is : Zone)
      → EditsEntries zone (front ++ edit ∷ []) was is
      → (mid : Zone) × EditsEntries zone front was mid × EditsEntry zone edit mid is
  split_entries zone front edit was is h =
      let key : Entry → Id = λ e. e.id in
      let more : entries_after was.entries (front ++ edit ∷ []) ≡ entries_after (entries_after was.entries front)
      (edit ∷ []) = fold-append (after_edit (slice_cmp nat_cmp) key) was.entries front (edit ∷ []) in
      let stands = still_stands nat_list_cmp_total key bytes_eq texts_ties front edit zone.entries h.rises
      h.is_zone.entries in (
        record was { entries = entries_after was.entries front },
        record {
          is_zone = h.is_zone;
          rises = AllPairs_front (λ a b. IsTrue (is_lt (slice_cmp nat_cmp (edit_key key a) (edit_key key b)))) front
              (edit ∷ []) h.rises;
          was = h.was;
          is = refl;
        },
        record {
          was = subst (λ es. filter (λ e. bytes_eq e.id (edit_key key edit)) (entries_after es front)
              ≡ option_to_list (entry_of zone (edit_key key edit))) (sym h.was) stands;
          is = h.is ∙ ap (λ es. record was { entries = es }) more;
        },
      )

  entries_more : (zone : Zone) (front : List (Edit Entry Id × Option ℕ)) (d : Edit Entry Id × Option ℕ) (was is : Zone)
      → EditsEntries zone (others new_entry (front ++ d ∷ [])) was is
      → (mid : Zone) × EditsEntries zone (others new_entry front) was mid × EditsOldEntry zone d mid is
  entries_more zone front (Put e, None) was is h =
      (is, subst (λ es. EditsEntries zone es was is) (others_new new_entry front (Put e, None) e refl) h, refl)
  entries_more zone front (Put e, Some n) was is h =
      split_entries zone (others new_entry front) (Put e) was is
      (subst (λ es. EditsEntries zone es was is) (others_old new_entry front (Put e, Some n) refl) h)
  entries_more zone front (Remove id, stood) was is h =
      split_entries zone (others new_entry front) (Remove id) was is
      (subst (λ es. EditsEntries zone es was is) (others_old new_entry front (Remove id, stood) refl) h)

  split_elements : (zone : Zone) (front : List (Edit Element (ElemType × Text))) (edit : Edit Element (ElemType × Text))
      (was is : Zone) → EditsElements zone (front ++ edit ∷ []) was is
      → (mid : Zone) × EditsElements zone front was mid × EditsElement zone edit mid is
  split_elements zone front edit was is h =
      let key = element_key in
      let more : elements_after was.elements (front ++ edit ∷ []) ≡ elements_after (elements_after was.elements front)
      (edit ∷ []) = fold-append (after_edit element_cmp key) was.elements front (edit ∷ []) in
      let stands = still_stands element_cmp_total key element_eq element_ties front edit zone.elements h.rises
      h.is_zone.elements in (
        record was { elements = elements_after was.elements front },
        record {
          is_zone = h.is_zone;
          rises = AllPairs_front (λ a b. IsTrue (is_lt (element_cmp (edit_key key a) (edit_key key b)))) front
              (edit ∷ []) h.rises;
          was = h.was;
          is = refl;
        },
        record {
          was = subst (λ es. filter (λ e. element_eq (key e) (edit_key key edit)) (elements_after es front)
              ≡ option_to_list (element_of zone (edit_key key edit).0 (edit_key key edit).1)) (sym h.was) stands;
          is = h.is ∙ ap (λ es. record was { elements = es }) more;
        },
      )

  elements_more : (zone : Zone) (front : List (Edit Element (ElemType × Text) × Bool))
      (d : Edit Element (ElemType × Text) × Bool) (was is : Zone)
      → EditsElements zone (others new_element (front ++ d ∷ [])) was is
      → (mid : Zone) × EditsElements zone (others new_element front) was mid × EditsOldElement zone d mid is
  elements_more zone front (Put e, false) was is h =
      (is, subst (λ es. EditsElements zone es was is) (others_new new_element front (Put e, false) e refl) h, refl)
  elements_more zone front (Put e, true) was is h =
      split_elements zone (others new_element front) (Put e) was is
      (subst (λ es. EditsElements zone es was is) (others_old new_element front (Put e, true) refl) h)
  elements_more zone front (Remove key, stood) was is h =
      split_elements zone (others new_element front) (Remove key) was is
      (subst (λ es. EditsElements zone es was is) (others_old new_element front (Remove key, stood) refl) h)

  -- the loops, of which the next edit is made
  pub entries_go_on : (zone : Zone) (a b c : Held S) (edits : List (Edit Entry Id × Option ℕ)) (i : ℕ)
      (d : Edit Entry Id × Option ℕ) → i < length edits → d ≡ get_or edits i d → StaysInside g b c
      → ChangesZone g a b name (EditsEntries zone (others new_entry (take i edits)))
      → ChangesZone g b c name (EditsOldEntry zone d)
      → ChangesZone g a c name (EditsEntries zone (others new_entry (take (i + 1) edits)))
  entries_go_on zone a b c edits i d within at inside one two =
      changes_then a b c (EditsEntries zone (others new_entry (take i edits))) (EditsOldEntry zone d)
      (EditsEntries zone (others new_entry (take (i + 1) edits)))
      (λ was is h. entries_more zone (take i edits) d was is
      (subst (λ ds. EditsEntries zone (others new_entry ds) was is) (front_more edits i d within at) h)) inside one two

  pub elements_go_on : (zone : Zone) (a b c : Held S) (edits : List (Edit Element (ElemType × Text) × Bool)) (i : ℕ)
      (d : Edit Element (ElemType × Text) × Bool) → i < length edits → d ≡ get_or edits i d → StaysInside g b c
      → ChangesZone g a b name (EditsElements zone (others new_element (take i edits)))
      → ChangesZone g b c name (EditsOldElement zone d)
      → ChangesZone g a c name (EditsElements zone (others new_element (take (i + 1) edits)))
  elements_go_on zone a b c edits i d within at inside one two =
      changes_then a b c (EditsElements zone (others new_element (take i edits))) (EditsOldElement zone d)
      (EditsElements zone (others new_element (take (i + 1) edits)))
      (λ was is h. elements_more zone (take i edits) d was is
      (subst (λ ds. EditsElements zone (others new_element ds) was is) (front_more edits i d within at) h)) inside one
      two

  -- first those that put nothing new, and then what is new
  pub entries_end : (zone : Zone) (a b c : Held S) (edits : List (Edit Entry Id)) (stood : List (Option ℕ))
      → stood ≡ map (entry_stood zone) edits → StaysInside g b c
      → ChangesZone g a b name (EditsEntries zone (others new_entry (zip edits stood)))
      → ChangesZone g b c name (HasMoreEntries (filter_map new_entry (zip edits stood)))
      → ChangesZone g a c name (EditsEntries zone edits)
  entries_end zone a b c edits stood known inside one two =
      let ds = zip edits stood in
      let key : Entry → Id = λ e. e.id in
      changes_then a b c (EditsEntries zone (others new_entry ds)) (HasMoreEntries (filter_map new_entry ds))
      (EditsEntries zone edits) (λ was is h.
      let all : map (λ (d : Edit Entry Id × Option ℕ). d.0) ds ≡ edits =
      firsts-zip edits stood (ap length known ∙ length-map edits (entry_stood zone)) in
      let rises = subst (Rises (slice_cmp nat_cmp) (edit_key key)) (sym all) h.rises in
      let entries : is.entries ≡ entries_after was.entries (map (λ (d : Edit Entry Id × Option ℕ). d.0) ds) =
      entries_are edits was is h.is ∙ ap (entries_after was.entries) (sym all) in (
        record was { entries = entries_after was.entries (others new_entry ds) },
        record {
          is_zone = h.is_zone;
          rises = others_rise nat_list_cmp_total key bytes_eq texts_ties new_entry ds rises;
          was = h.was;
          is = refl;
        },
        record {
          rest = h.is ∙ ap (λ es. record was { entries = es }) (sym (entries_are edits was is h.is));
          entries = subst (λ es. IsPermutation es (filter_map new_entry ds
              ++ entries_after was.entries (others new_entry ds))) (sym entries)
              (new_last nat_list_cmp_total key bytes_eq texts_ties new_entry ds rises was.entries was.entries
              (IsPermutation-refl was.entries)
              (rw h.was (subst (λ all_stood. AllByRecursion (IsNewIn nat_list_cmp_total key bytes_eq texts_ties
              new_entry zone.entries) (zip edits all_stood)) (sym known) (entries_new zone edits))));
        },
      )) inside one two

  pub elements_end : (zone : Zone) (a b c : Held S) (edits : List (Edit Element (ElemType × Text))) (stood : List Bool)
      → stood ≡ map (element_stood zone) edits → StaysInside g b c
      → ChangesZone g a b name (EditsElements zone (others new_element (zip edits stood)))
      → ChangesZone g b c name (HasMoreElements (filter_map new_element (zip edits stood)))
      → ChangesZone g a c name (EditsElements zone edits)
  elements_end zone a b c edits stood known inside one two =
      let ds = zip edits stood in
      let key = element_key in
      changes_then a b c (EditsElements zone (others new_element ds)) (HasMoreElements (filter_map new_element ds))
      (EditsElements zone edits) (λ was is h.
      let all : map (λ (d : Edit Element (ElemType × Text) × Bool). d.0) ds ≡ edits =
      firsts-zip edits stood (ap length known ∙ length-map edits (element_stood zone)) in
      let rises = subst (Rises element_cmp (edit_key key)) (sym all) h.rises in
      let elements : is.elements
      ≡ elements_after was.elements (map (λ (d : Edit Element (ElemType × Text) × Bool). d.0) ds) =
      elements_are edits was is h.is ∙ ap (elements_after was.elements) (sym all) in (
        record was { elements = elements_after was.elements (others new_element ds) },
        record {
          is_zone = h.is_zone;
          rises = others_rise element_cmp_total key element_eq element_ties new_element ds rises;
          was = h.was;
          is = refl;
        },
        record {
          rest = h.is ∙ ap (λ es. record was { elements = es }) (sym (elements_are edits was is h.is));
          elements = subst (λ es. IsPermutation es (filter_map new_element ds
              ++ elements_after was.elements (others new_element ds))) (sym elements)
              (new_last element_cmp_total key element_eq element_ties new_element ds rises was.elements was.elements
              (IsPermutation-refl was.elements)
              (rw h.was (subst (λ all_stood. AllByRecursion (IsNewIn element_cmp_total key element_eq element_ties
              new_element zone.elements) (zip edits all_stood)) (sym known) (elements_new zone edits))));
        },
      )) inside one two

  -- first the entries, and then the elements
  pub both : (zone : Zone) (a b c : Held S) (delta : ZoneDelta) → StaysInside g b c
      → ChangesZone g a b name (EditsEntries zone delta.edits.entries)
      → ChangesZone g b c name (EditsElements zone delta.edits.elements) → ChangesZone g a c name (HasEdited zone delta)
  both zone a b c delta inside one two =
      changes_then a b c (EditsEntries zone delta.edits.entries) (EditsElements zone delta.edits.elements)
      (HasEdited zone delta) (λ was is h. (
        record was { entries = entries_after was.entries delta.edits.entries },
        record {
          is_zone = h.is_zone;
          rises = h.is_delta.entries;
          was = ap (λ (z : Zone). z.entries) h.was;
          is = refl;
        },
        record {
          is_zone = h.is_zone;
          rises = h.is_delta.elements;
          was = ap (λ (z : Zone). z.elements) h.was;
          is = h.is;
        },
      )) inside one two

-- ---- the changed zone

-- what is changed by a delta is edited so
pub is_edited : (delta : ZoneDelta) (was is : Zone) → IsDelta delta → IsZone was → IsChanged delta was is
    → HasEdited was delta was is
is_edited delta was is d zone c =
    let id : Entry → Id = λ e. e.id in
    let entries : is.entries ≡ entries_after was.entries delta.edits.entries =
    rising_same nat_list_cmp_total id bytes_eq texts_ties is.entries (entries_after was.entries delta.edits.entries)
    c.is_zone.entries (Rises_edited nat_list_cmp_total id delta.edits.entries was.entries zone.entries)
    (λ k. c.entries k ∙ sym (find_edited nat_list_cmp_total id bytes_eq texts_ties delta.edits.entries d.entries
    was.entries k)) in
    let elements : is.elements ≡ elements_after was.elements delta.edits.elements =
    rising_same element_cmp_total element_key element_eq element_ties is.elements
    (elements_after was.elements delta.edits.elements) c.is_zone.elements
    (Rises_edited element_cmp_total element_key delta.edits.elements was.elements zone.elements)
    (λ k. c.elements k.0 k.1 ∙ sym (find_edited element_cmp_total element_key element_eq element_ties
    delta.edits.elements d.elements was.elements k)) in
    record {
      is_zone = zone;
      is_delta = d;
      was = refl;
      is = c.rest ∙ ap₂ (λ xs ys. record was { entries = xs; elements = ys }) entries elements;
    }

-- the zone that changes is one
pub zone_was : (name : Text) (was is : Zone) (i j : Inventory) → IsInventory i → IsZoneChange name was is i j
    → IsZone was
zone_was name was is i j inventory change =
    let named : IsZoneNamed (record { name = name; zone = was }) =
    All_middle IsZoneNamed change.before (record { name = name; zone = was }) change.after
    (subst (All IsZoneNamed) change.was inventory.zones) in
    named.zone
