-- A zone and its parts.
use Rattle.std.proofs.Common.{◌≡◌, ◌≢◌, inl, inr, List, [], ◌∷◌, map, Option, None, Some, IfSome, IsSome, IsTrue}
use Rattle.std.proofs.Common.{IsPermutation, arith, refl, sym, ap, ap₂, subst, ◌∙◌}
use Rattle.std.specs.Prelude.{◌||◌, is_some, option_map}
use Rattle.std.specs.List.{AllByRecursion}
use Rattle.std.specs.Str.{bytes_eq}
use Rattle.std.proofs.lemmas.Bool.{cases_Bool}
use Rattle.std.proofs.lemmas.List.Elements.{All-from_recursion}
use Rattle.std.proofs.lemmas.Option.{IfSome_then}
use Rattle.std.proofs.lemmas.Slice.Eq.{bytes_eq-Decides}
use Rattle.sqlite_rules.specs.Lists.{Has}
use Rattle.store_rows.specs.Rows.{Contents}
use Rattle.terms.proofs.Each.{recursion_append, recursion_map, recursion_unmap, recursion_front, recursion_back}
use Rattle.terms.proofs.Each.{recursion_weaker}
use Rattle.terms.specs.Types.{Text, Id, a_zone, an_applied, Applied, Entry, Element, Zone, NamedZone}
use Rattle.terms.specs.Lookups.{is_nil, waives_applied}
use Rattle.store_schema.specs.declared.schema.Schema.{Schema}
use Rattle.store_schema.specs.declared.schema.Schema.TheVariants.{First, Second, Third}
use Rattle.store_schema.specs.Forms.{HasAppliedForms, HasEntryForms, HasElementForms}
use Rattle.store_schema.specs.Inventory.{Inventory}
use Rattle.store_schema.specs.Tables.{entry, chosen}
use Rattle.store_schema.proofs.WrittenLists.{all_by}
use Rattle.store_zones.specs.Found.{zone_in, head_in, MayBeZone}
use Rattle.store_zones.specs.Held.{rows_named, HoldsZone, HoldsNumbers, HoldsUnder, HoldsHead, HoldsEntries}
use Rattle.store_zones.specs.Held.{HasNumbers, HoldsNumbered, HoldsElements}
use Rattle.store_zones.specs.Numbered.{as_first, number_in, numbers_of, numbered}
use Rattle.store_zones.specs.Chosen.{HasNumberForms}
use Rattle.store_zones.specs.Elements.{HasElementRowForms}
use Rattle.store_zones.specs.Entries.{HasEntryRowForms, IsFirst}
use Rattle.store_zones.specs.declared.installed_vers.EntryNumber.{EntryNumber}
use Rattle.store_zones.specs.declared.head.ZoneHead.{ZoneHead}
use Rattle.store_zones.proofs.Elements.{elements_same}
use Rattle.store_zones.proofs.Entries.{entries_same, numbers_same}
use Rattle.store_zones.proofs.Heads.{head_named, heads_same}
use Rattle.store_zones.proofs.InZone.{with_zone}
use Rattle.store_zones.proofs.EntryNumbers.{first_rows, number_rows, first_or_number, one_number, each_number}
use Rattle.store_zones.proofs.EntryNumbers.{no_numbers, all_first, numbers_rise, firsts_rise, all_rise, all_taken}
use Rattle.store_zones.proofs.ZoneRows.{zone_among}

-- ---- the forms of entries and their numbers

-- what an entry has, it has without its number
first_applied : (a : Option Applied) → IfSome a HasAppliedForms
    → IfSome (option_map (λ v. an_applied v.date 1) a) HasAppliedForms
first_applied None f = tt
first_applied (Some a) f = record { date = f.date; least = omega arith; most = omega arith }

first_first : (a : Option Applied) → IfSome (option_map (λ v. an_applied v.date 1) a) (λ v. v.number ≡ 1)
first_first None = tt
first_first (Some a) = refl

abbrev IsEntryIn : Text → Entry → Type 0
IsEntryIn name e = HasEntryRowForms (with_zone name e)

abbrev IsNumberIn : Text → EntryNumber → Type 0
IsNumberIn name n = HasNumberForms (with_zone name n)

-- a number that is not 1 is greater
number_forms : (name : Text) (e : Entry) → IsEntryIn name (as_first e) → IfSome e.applied HasAppliedForms
    → AllByRecursion (IsNumberIn name) (number_in e)
number_forms name e f h = each_number (IsNumberIn name) e (λ a is apart.
    let own : HasAppliedForms a = subst (λ o. IfSome o HasAppliedForms) is h in
    record {
      zone = f.zone;
      id = f.id;
      least = let low = own.least in omega (arith, low, apart);
      most = own.most;
    })

-- and back
applied_forms : (name : Text) (e : Entry) → IsEntryIn name (as_first e) → AllByRecursion (IsNumberIn name) (number_in e)
    → IfSome e.applied HasAppliedForms
applied_forms name e f h = elim (first_or_number e) [
  | inl first ↦ by e.applied first f.applied
  | inr other ↦
      let n = (subst (AllByRecursion (IsNumberIn name)) (one_number e other.0 other.1 other.2) h).0 in
      let date = subst (λ o. IfSome (option_map (λ v. an_applied v.date 1) o) HasAppliedForms) other.1 f.applied in
      subst (λ o. IfSome o HasAppliedForms) (sym other.1) (record {
        date = date.date;
        least = let low = n.least in omega (arith, low);
        most = n.most;
      })
]
  where
    by : (o : Option Applied) → IfSome o (λ v. v.number ≡ 1)
        → IfSome (option_map (λ v. an_applied v.date 1) o) HasAppliedForms → IfSome o HasAppliedForms
    by None first own = tt
    by (Some a) first own = subst (λ n. HasAppliedForms (an_applied a.date n)) (sym first) own

all_number_forms : (name : Text) (es : List Entry) → AllByRecursion (λ e. IsEntryIn name (as_first e)) es
    → AllByRecursion (λ e. IfSome e.applied HasAppliedForms) es → AllByRecursion (IsNumberIn name) (numbers_of es)
all_number_forms name [] f h = tt
all_number_forms name (e ∷ es) f h = recursion_append (IsNumberIn name) (number_in e) (numbers_of es)
    (number_forms name e f.0 h.0) (all_number_forms name es f.1 h.1)

all_applied_forms : (name : Text) (es : List Entry) → AllByRecursion (λ e. IsEntryIn name (as_first e)) es
    → AllByRecursion (IsNumberIn name) (numbers_of es) → AllByRecursion (λ e. IfSome e.applied HasAppliedForms) es
all_applied_forms name [] f h = tt
all_applied_forms name (e ∷ es) f h = (
  applied_forms name e f.0 (recursion_front (IsNumberIn name) (number_in e) (numbers_of es) h),
  all_applied_forms name es f.1 (recursion_back (IsNumberIn name) (number_in e) (numbers_of es) h),
)

-- ---- the parts of a zone

module _ (contents : Contents) (name : Text) where
  abbrev named_so : Zone → NamedZone
  named_so zone = record { name = name; zone = zone }

  its_head : (zone : Zone) → HoldsZone contents (named_so zone) → HoldsHead contents name (Some (head_in name zone))
  its_head zone h = record {
    rows = h.head;
    forms = (
      record {
        name = h.forms.name;
        srel = h.forms.forms.srel;
        related = h.related;
        not_global = h.forms.not_global;
        suits = h.forms.zone.related;
      },
      tt,
    );
  }

  entry_rows : (zone : Zone) → HoldsZone contents (named_so zone)
      → AllByRecursion (λ e. IsEntryIn name (as_first e)) zone.entries
  entry_rows zone h = recursion_weaker HasEntryForms (λ e. IsEntryIn name (as_first e)) (λ e f. record {
    zone = h.forms.name;
    id = f.id;
    applied = first_applied e.applied f.applied;
    first = first_first e.applied;
    supby = f.supby;
    delby = f.delby;
    waived = f.waived;
  }) zone.entries (all_by HasEntryForms zone.entries h.forms.forms.entries)

  its_entries : (zone : Zone) → HoldsZone contents (named_so zone)
      → HoldsEntries contents name (map as_first zone.entries)
  its_entries zone h = record {
    rows = subst (λ rows. IsPermutation rows (rows_named name entry contents)) (sym (first_rows name zone.entries))
        h.entries;
    forms = recursion_map as_first (IsEntryIn name) zone.entries (entry_rows zone h);
    rise = firsts_rise zone.entries h.forms.zone.entries;
  }

  its_numbers : (r : Schema) (zone : Zone) → HoldsZone contents (named_so zone)
      → HoldsNumbers r contents (named_so zone) → HasNumbers r contents name (numbers_of zone.entries)
  its_numbers First zone h n = no_numbers zone.entries (all_by IsFirst zone.entries n)
  its_numbers Second zone h n = no_numbers zone.entries (all_by IsFirst zone.entries n)
  its_numbers Third zone h n = record {
    rows = subst (λ rows. IsPermutation rows (rows_named name chosen contents)) (number_rows name zone.entries) n;
    forms = all_number_forms name zone.entries (entry_rows zone h)
        (recursion_weaker HasEntryForms (λ e. IfSome e.applied HasAppliedForms) (λ e f. f.applied) zone.entries
        (all_by HasEntryForms zone.entries h.forms.forms.entries));
    rise = numbers_rise zone.entries h.forms.zone.entries;
  }

  pub its_numbered : (r : Schema) (zone : Zone) → HoldsUnder r contents name (Some zone)
      → HoldsNumbered r contents name zone.entries
  its_numbered r zone h = record { firsts = its_entries zone h.1; numbers = its_numbers r zone h.1 h.0 }

  pub its_elements : (zone : Zone) → HoldsZone contents (named_so zone) → HoldsElements contents name zone.elements
  its_elements zone h = record {
    rows = h.elements;
    forms = recursion_weaker HasElementForms (λ e. HasElementRowForms (with_zone name e)) (λ e f. record {
      zone = h.forms.name;
      element = f;
    }) zone.elements (all_by HasElementForms zone.elements h.forms.forms.elements);
    rise = h.forms.zone.elements;
  }

  pub head_at : (r : Schema) (zone : Option Zone) → HoldsUnder r contents name zone
      → HoldsHead contents name (option_map (head_in name) zone)
  head_at r None h = record { rows = h; forms = tt }
  head_at r (Some zone) h = its_head zone h.1

  -- ---- one list of entries, and one zone

  numbers_one : (r : Schema) (xs ys : List Entry) → HasNumbers r contents name (numbers_of xs)
      → HasNumbers r contents name (numbers_of ys) → numbers_of xs ≡ numbers_of ys
  numbers_one First xs ys p q = p ∙ sym q
  numbers_one Second xs ys p q = p ∙ sym q
  numbers_one Third xs ys p q = numbers_same contents name (numbers_of xs) (numbers_of ys) p q

  numbered_same : (r : Schema) (xs ys : List Entry) → HoldsNumbered r contents name xs
      → HoldsNumbered r contents name ys → xs ≡ ys
  numbered_same r xs ys p q =
      let firsts = entries_same contents name (map as_first xs) (map as_first ys) p.firsts q.firsts in
      sym (all_taken xs (all_rise xs p.firsts.rise)).0
      ∙ ap₂ numbered firsts (numbers_one r xs ys p.numbers q.numbers)
      ∙ (all_taken ys (all_rise ys q.firsts.rise)).0

  same_zone : (a b : Zone) → head_in name a ≡ head_in name b → a.entries ≡ b.entries → a.elements ≡ b.elements
      → a ≡ b
  same_zone a b head entries elements =
      ap (λ (h : ZoneHead). a_zone h.kind h.srel h.related a.entries a.elements) head
      ∙ ap (λ es. a_zone b.kind b.srel b.related es a.elements) entries
      ∙ ap (λ es. a_zone b.kind b.srel b.related b.entries es) elements

  pub one_under : (r : Schema) (a b : Option Zone) → HoldsUnder r contents name a → HoldsUnder r contents name b → a ≡ b
  one_under r None None p q = refl
  one_under r None (Some b) p q = absurd (let e = sym p ∙ q.1.head in cc)
  one_under r (Some a) None p q = absurd (let e = sym q ∙ p.1.head in cc)
  one_under r (Some a) (Some b) p q =
      let is = heads_same contents name _ _ (its_head a p.1) (its_head b q.1) in
      let alike : head_in name a ≡ head_in name b = cc in
      let entries = numbered_same r a.entries b.entries (its_numbered r a p) (its_numbered r b q) in
      let elements = elements_same contents name a.elements b.elements (its_elements a p.1) (its_elements b q.1) in
      ap Some (same_zone a b alike entries elements)

-- ---- a zone of parts

abbrev whole : ZoneHead → List Entry → List Element → Zone
whole head entries elements = a_zone head.kind head.srel head.related entries elements

waiving : (applied : Option Applied) (waived : List Id) → IsTrue (is_some applied || is_nil waived) → waived ≢ []
    → IsSome applied
waiving (Some a) waived h some = refl
waiving None [] h some = absurd (some refl)
waiving None (x ∷ waived) h some = absurd cc

entry_forms : (name : Text) (e : Entry) → IsEntryIn name (as_first e) → IfSome e.applied HasAppliedForms
    → IsTrue (waives_applied e) → HasEntryForms e
entry_forms name e f applied waives = record {
  id = f.id;
  applied = applied;
  supby = f.supby;
  delby = f.delby;
  waived = f.waived;
  waived_if_applied = waiving e.applied e.waived waives;
}

module _ (r : Schema) (contents : Contents) (head : ZoneHead) (entries : List Entry) (elements : List Element) where
  each_number_form : HasNumbers r contents head.name (numbers_of entries)
      → AllByRecursion (IsNumberIn head.name) (numbers_of entries)
  each_number_form = by r
    where
      none : numbers_of entries ≡ [] → AllByRecursion (IsNumberIn head.name) (numbers_of entries)
      none is = subst (AllByRecursion (IsNumberIn head.name)) (sym is) tt

      by : (s : Schema) → HasNumbers s contents head.name (numbers_of entries)
          → AllByRecursion (IsNumberIn head.name) (numbers_of entries)
      by First n = none n
      by Second n = none n
      by Third n = n.forms

  numbers_held : HasNumbers r contents head.name (numbers_of entries)
      → HoldsNumbers r contents (record { name = head.name; zone = whole head entries elements })
  numbers_held = by r
    where
      by : (s : Schema) → HasNumbers s contents head.name (numbers_of entries)
          → HoldsNumbers s contents (record { name = head.name; zone = whole head entries elements })
      by First n = All-from_recursion IsFirst entries (all_first entries n)
      by Second n = All-from_recursion IsFirst entries (all_first entries n)
      by Third n = subst (λ rows. IsPermutation rows (rows_named head.name chosen contents))
          (sym (number_rows head.name entries)) n.rows

  pub is_held : HoldsHead contents head.name (Some head) → HoldsNumbered r contents head.name entries
      → HoldsElements contents head.name elements → MayBeZone head.kind head.related entries
      → HoldsUnder r contents head.name (Some (whole head entries elements))
  is_held h es ls may =
      let firsts = recursion_unmap as_first (IsEntryIn head.name) entries es.firsts.forms in
      let applied = all_applied_forms head.name entries firsts (each_number_form es.numbers) in
      let entry_rows = All-from_recursion (λ e. IsEntryIn head.name (as_first e)) entries firsts in
      let applied_rows = All-from_recursion (λ e. IfSome e.applied HasAppliedForms) entries applied in
      let element_rows = All-from_recursion (λ e. HasElementRowForms (with_zone head.name e)) elements ls.forms in (
        numbers_held es.numbers,
        record {
          head = h.rows;
          entries = subst (λ rows. IsPermutation rows (rows_named head.name entry contents))
              (first_rows head.name entries) es.firsts.rows;
          elements = ls.rows;
          forms = record {
            name = h.forms.0.name;
            not_global = h.forms.0.not_global;
            forms = record {
              srel = h.forms.0.srel;
              entries = λ k d within. entry_forms head.name _ (entry_rows k d within) (applied_rows k d within)
                  (may.1 k d within);
              elements = λ k d within. (element_rows k d within).element;
            };
            zone = record {
              entries = all_rise entries es.firsts.rise;
              held = may.0;
              waived = may.1;
              elements = ls.rise;
              related = may.2;
            };
          };
          related = h.forms.0.related;
        },
      )

  -- parts that are held are those of the zone that is
  pub may_stand : HoldsHead contents head.name (Some head) → HoldsNumbered r contents head.name entries
      → (zone : Zone) → HoldsUnder r contents head.name (Some zone) → MayBeZone head.kind head.related entries
  may_stand h es zone held =
      let is = heads_same contents head.name _ _ (its_head contents head.name zone held.1) h in
      let alike : head_in head.name zone ≡ head = cc in
      let same = numbered_same contents head.name r zone.entries entries
      (its_numbered contents head.name r zone held) es in
      let own : MayBeZone zone.kind zone.related zone.entries =
      (held.1.forms.zone.held, held.1.forms.zone.waived, held.1.forms.zone.related) in
      subst (λ (a : ZoneHead). MayBeZone a.kind a.related entries) alike
      (subst (MayBeZone zone.kind zone.related) same own)

-- where there is a head there is a zone
pub is_zone : (r : Schema) (contents : Contents) (name : Text) (head : ZoneHead)
    → HoldsHead contents name (Some head) → (found : Option Zone) → HoldsUnder r contents name found
    → (zone : Zone) × HoldsUnder r contents head.name (Some zone)
is_zone r contents name head h None held = absurd (let e = sym held ∙ h.rows in cc)
is_zone r contents name head h (Some zone) held = (
  zone,
  subst (λ n. HoldsUnder r contents n (Some zone)) (sym (head_named contents name head h)) held,
)

-- ---- of an inventory

among : (name : Text) (zones : List NamedZone) → IfSome (zone_among zones name)
    (λ zone. Has zones (record { name = name; zone = zone }))
among name [] = tt
among name (z ∷ zones) = elim (cases_Bool (bytes_eq z.name name)) [
  | inl e ↦
      let first : Has (z ∷ zones) (record { name = name; zone = z.zone }) =
      inl (ap (λ n. record { name = n; zone = z.zone }) (sym ((bytes_eq-Decides z.name name).0 e))) in
      rw e first
  | inr e ↦
      let later : IfSome (zone_among zones name) (λ zone. Has (z ∷ zones) (record { name = name; zone = zone })) =
      IfSome_then (zone_among zones name) (among name zones) (λ zone there. inr there) in
      rw e later
]

pub is_there : (i : Inventory) (name : Text) → IfSome (zone_in i name)
    (λ zone. Has i.zones (record { name = name; zone = zone }))
is_there i name = among name i.zones
