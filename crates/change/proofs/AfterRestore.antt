-- Whatever zone the edits make of the old one is the one that the restore asks for.
use Rattle.std.proofs.Common.{◌≡◌, ◌∙◌, List, [], IsPermutation, sym, ap, subst, All, Any, IsTrue}
use Rattle.std.specs.Prelude.{IsFalse, fold}
use Rattle.std.specs.Cmp.Lexicographic.{texts_ties}
use Rattle.std.specs.Str.{bytes_eq}
use Rattle.std.proofs.lemmas.Cmp.{nat_list_cmp_total}
use Rattle.terms.specs.Types.{Id, Global, Entry, Zone}
use Rattle.terms.specs.Lookups.{IsZone, is_in, has_change, element_of}
use Rattle.terms.specs.Deleted.{entries_less}
use Rattle.terms.specs.Restore.{Restoring, Restores}
use Rattle.terms.proofs.SameLists.{rising_same}
use Rattle.sorted.specs.Edits.{after_edits}
use Rattle.zones_maps.specs.Delta.{ZoneEdits, IsEdited}
use Rattle.zones.proofs.Entries.{entries_less_rise}
use Rattle.change.specs.Restoring.{IsRestoringOf, take_off, all_changed, ArePutBack}
use Rattle.zones_maps.specs.Differing.{ChangesEntry, EachChanges}
use Rattle.change.proofs.LessEdits.{all_taken_off, entry_left, elements_stay}
use Rattle.sorted.specs.ElementKeys.{Key}
use Rattle.change.proofs.Reverted.{reverted, unchanged}

-- the entries' edits touch no element
pub elements_none : (kept : List Id) (es : List Entry) (start between : ZoneEdits) → start.elements ≡ []
    → between ≡ fold (take_off (is_in kept)) start es → between.elements ≡ []
elements_none kept es start between none off =
    ap (λ (d : ZoneEdits). d.elements) off ∙ elements_stay (is_in kept) start es ∙ none

module _ (g : Global) (zone accepted : Zone) (kept : List Id) (z : IsZone zone) (start between zone_edits : ZoneEdits)
    (no_entries : start.entries ≡ []) (off : between ≡ fold (take_off (is_in kept)) start zone.entries)
    (keys : List Key) (changed : IsPermutation (all_changed g kept) keys)
    (back : ArePutBack zone accepted keys between zone_edits) where
  entries_are : zone_edits.entries ≡ (fold (take_off (is_in kept)) start zone.entries).entries
  entries_are = back.entries ∙ ap (λ (d : ZoneEdits). d.entries) off

  pub each_changes : EachChanges zone zone_edits
  each_changes = record {
    entries = subst (All (ChangesEntry zone)) (sym entries_are)
        (all_taken_off (is_in kept) zone z start no_entries).differ;
    elements = back.elements.differ;
  }

  left_entries : (new : Zone) → IsEdited zone_edits zone new → new.entries ≡ entries_less (is_in kept) zone.entries
  left_entries new is =
      rising_same nat_list_cmp_total (λ (e : Entry). e.id) bytes_eq texts_ties new.entries
      (entries_less (is_in kept) zone.entries) is.is_zone.entries
      (entries_less_rise (is_in kept) zone.entries z.entries)
      (λ x. is.entries x
      ∙ ap (λ es. after_edits bytes_eq (λ (e : Entry). e.id) es zone.entries x) entries_are
      ∙ entry_left (is_in kept) zone z (fold (take_off (is_in kept)) start zone.entries).entries
      (all_taken_off (is_in kept) zone z start no_entries) x)

  pub restored : (r : Restoring) → IsRestoringOf r g zone accepted → (new : Zone) → IsEdited zone_edits zone new
      → Restores r kept new
  restored r of new is = record {
    rest = is.rest ∙ ap (λ (v : Zone). record v { entries = new.entries; elements = new.elements }) (sym of.zone_is);
    is_zone = is.is_zone;
    entries = left_entries new is ∙ ap (λ (v : Zone). entries_less (is_in kept) v.entries) (sym of.zone_is);
    reverted = λ type name some.
        is.elements type name
        ∙ reverted g type name zone accepted kept keys changed zone_edits.elements back.elements
        (subst (λ v. Any (λ x. IsTrue (has_change v x type name)) kept) of.global some)
        ∙ ap (λ v. element_of v type name) (sym of.accepted_is);
    others = λ type name none.
        is.elements type name
        ∙ unchanged g type name zone accepted kept keys changed zone_edits.elements back.elements
        (subst (λ v. All (λ x. IsFalse (has_change v x type name)) kept) of.global none)
        ∙ ap (λ v. element_of v type name) (sym of.zone_is);
  }
