-- What is found in a zone some of whose SYSMODs are gone.
use Rattle.std.proofs.Common.{◌≡◌, ◌∙◌, Bool, true, false, not, List, [], ◌∷◌, Option, None, Some, is_some, map, filter}
use Rattle.std.proofs.Common.{IsTrue, refl, sym, ap, true≢false}
use Rattle.std.specs.Prelude.{◌||◌, ◌&&◌, find, option_map, if◌then◌else◌}
use Rattle.std.specs.Option.{option_map_or, option_and_then}
use Rattle.std.specs.Cmp.Lexicographic.{texts_ties}
use Rattle.std.specs.Str.{bytes_eq}
use Rattle.std.proofs.lemmas.Cmp.{nat_list_cmp_total}
use Rattle.terms.proofs.Pairs.{pairs_map}
use Rattle.terms.proofs.Searches.{find_map, find_passes}
use Rattle.terms.proofs.TextOrder.{same_from}
use Rattle.terms.specs.Types.{Id, Entry, Zone, Applied}
use Rattle.terms.specs.Lookups.{IsZone, is_nil, is_before, has_content, entry_of, is_applied, applied_of, supby_of}
use Rattle.terms.specs.Lookups.{delby_of, waived_of}
use Rattle.terms.specs.Deleted.{entry_less, entries_less}
use Rattle.zones.proofs.Filtered.{passing, find_filter}
use Rattle.terms.proofs.Options.{is_some_unless}

record IsBare (date : Option Applied) (supby : List Id) (delby : Option Id) : Type 0 where
  date_none : date ≡ None
  supby_nil : supby ≡ []
  delby_none : delby ≡ None

bare : (date : Option Applied) (supby : List Id) (delby : Option Id)
    → (is_some date || not (is_nil supby) || is_some delby) ≡ false → IsBare date supby delby
bare None [] None unheld = record { date_none = refl; supby_nil = refl; delby_none = refl }
bare None [] (Some k) unheld = absurd (true≢false unheld)
bare None (y ∷ ys) delby unheld = absurd (true≢false unheld)
bare (Some t) supby delby unheld = absurd (true≢false unheld)

unheld_is : (e : Entry) → has_content e ≡ false → IsBare e.applied e.supby e.delby
unheld_is e unheld = bare e.applied e.supby e.delby unheld

-- what an entry has that is not held, no entry has
held_field : {Y : Type 0} (f : Entry → Y) (d : Y) → ((e : Entry) → has_content e ≡ false → f e ≡ d) → (e : Entry)
    → option_map_or f (passing has_content (Some e)) d ≡ f e
held_field {Y} f d unheld e = by (has_content e) refl
  where
    by : (b : Bool) → has_content e ≡ b → option_map_or f (if b then Some e else None) d ≡ f e
    by true at = refl
    by false at = sym (unheld e at)

and_then_or : (o : Option Entry) → option_and_then (λ e. e.delby) o ≡ option_map_or (λ e. e.delby) o None
and_then_or None = refl
and_then_or (Some e) = refl

abbrev waived_in : Option Entry → List Id
waived_in o = option_map_or (λ e. e.waived) o []

module _ (is_gone : Id → Bool) (zone new : Zone) (z : IsZone zone)
    (entries : new.entries ≡ entries_less is_gone zone.entries) where
  left : (x : Id) → entry_of new x ≡ passing has_content (option_map (entry_less is_gone) (entry_of zone x))
  left x =
      ap (find (λ (e : Entry). bytes_eq e.id x)) entries
      ∙ find_filter nat_list_cmp_total (λ (e : Entry). e.id) bytes_eq texts_ties has_content x
      (map (entry_less is_gone) zone.entries)
      (pairs_map (λ e f. IsTrue (is_before e.id f.id)) (λ e f. IsTrue (is_before e.id f.id)) (entry_less is_gone)
      (λ e f low. low) zone.entries z.entries)
      ∙ ap (passing has_content) (find_map (λ e. bytes_eq e.id x) (entry_less is_gone) (λ e. refl) zone.entries)

  -- a field of the entry, which is there for what it holds
  field_left : {Y : Type 0} (f : Entry → Y) (d : Y) (g : Y → Y)
      → ((e : Entry) → has_content e ≡ false → f e ≡ d) → d ≡ g d
      → (x : Id) → ((e : Entry) → e.id ≡ x → f (entry_less is_gone e) ≡ g (f e))
      → option_map_or f (entry_of new x) d ≡ g (option_map_or f (entry_of zone x) d)
  field_left f d g unheld none x some = ap (λ o. option_map_or f o d) (left x) ∙ by (entry_of zone x) refl
    where
      by : (o : Option Entry) → entry_of zone x ≡ o
          → option_map_or f (passing has_content (option_map (entry_less is_gone) o)) d ≡ g (option_map_or f o d)
      by None at = none
      by (Some e) at = held_field f d unheld (entry_less is_gone e)
          ∙ some e (same_from e.id x (find_passes (λ (e : Entry). bytes_eq e.id x) zone.entries e at))

  -- applied is what was applied and is not gone
  pub applied_left : (x : Id) → is_applied new x ≡ (is_applied zone x && not (is_gone x))
  applied_left x = field_left (λ e. is_some e.applied) false (λ b. b && not (is_gone x))
      (λ e unheld. ap is_some (unheld_is e unheld).date_none) refl x
      (λ e same. is_some_unless (is_gone e.id) e.applied ∙ ap (λ y. is_some e.applied && not (is_gone y)) same)

  -- and has the date and the number that it had
  pub dated_left : (x : Id) (a : Applied) → applied_of new x ≡ Some a → applied_of zone x ≡ Some a
  dated_left x a at = by (entry_of zone x) refl (sym (ap (option_and_then (λ (e : Entry). e.applied)) (left x)) ∙ at)
    where
      from : (date : Option Applied) (gone : Bool) → (if gone then None else date) ≡ Some a → date ≡ Some a
      from date true shown = absurd (cc shown)
      from date false shown = shown

      kept : (e : Entry) (held : Bool)
          → option_and_then (λ e. e.applied) (if held then Some (entry_less is_gone e) else None) ≡ Some a
          → e.applied ≡ Some a
      kept e true shown = from e.applied (is_gone e.id) shown
      kept e false shown = absurd (cc shown)

      by : (o : Option Entry) → entry_of zone x ≡ o
          → option_and_then (λ e. e.applied) (passing has_content (option_map (entry_less is_gone) o)) ≡ Some a
          → applied_of zone x ≡ Some a
      by None found shown = absurd (cc shown)
      by (Some e) found shown = ap (option_and_then (λ e. e.applied)) found
          ∙ kept e (has_content (entry_less is_gone e)) shown

  pub supby_left : (x : Id) → supby_of new x ≡ filter (λ y. not (is_gone y)) (supby_of zone x)
  supby_left x = field_left (λ e. e.supby) [] (filter (λ y. not (is_gone y)))
      (λ e unheld. (unheld_is e unheld).supby_nil) refl x (λ e same. refl)

  pub delby_left : (x : Id) → delby_of new x ≡ delby_of zone x
  delby_left x = and_then_or (entry_of new x)
      ∙ field_left (λ e. e.delby) None (λ d. d) (λ e unheld. (unheld_is e unheld).delby_none) refl x (λ e same. refl)
      ∙ sym (and_then_or (entry_of zone x))

  -- what is still applied waives what it waived
  pub waived_left : (x : Id) → IsTrue (is_applied new x) → waived_of new x ≡ waived_of zone x
  waived_left x on = by (entry_of zone x) refl
    where
      kept : (e : Entry) → e.id ≡ x → (gone held : Bool) → is_gone x ≡ gone → has_content (entry_less is_gone e) ≡ held
          → option_map_or (λ e. is_some e.applied) (if held then Some (entry_less is_gone e) else None) false ≡ true
          → waived_in (if held then Some (entry_less is_gone e) else None) ≡ e.waived
      kept e same gone false at h applied = absurd (true≢false (sym applied))
      kept e same true true at h applied = absurd (true≢false (sym applied
          ∙ ap (λ b. is_some (if b then None else e.applied)) (ap is_gone same ∙ at)))
      kept e same false true at h applied = ap (λ b. if b then [] else e.waived) (ap is_gone same ∙ at)

      by : (o : Option Entry) → entry_of zone x ≡ o → waived_of new x ≡ waived_of zone x
      by None at = ap waived_in (left x ∙ ap (λ o. passing has_content (option_map (entry_less is_gone) o)) at)
          ∙ sym (ap waived_in at)
      by (Some e) at =
          let is = left x ∙ ap (λ o. passing has_content (option_map (entry_less is_gone) o)) at in
          ap waived_in is
          ∙ kept e (same_from e.id x (find_passes (λ (e : Entry). bytes_eq e.id x) zone.entries e at)) (is_gone x)
          (has_content (entry_less is_gone e)) refl refl
          (sym (ap (λ o. option_map_or (λ (e : Entry). is_some e.applied) o false) is) ∙ on)
          ∙ sym (ap waived_in at)
