-- Of edits of elements that rise by their keys, those that change something leave at each key what all of them leave.
use Rattle.std.proofs.Common.{◌≡◌, inl, inr, Bool, true, false, List, [], ◌∷◌, ◌++◌, refl, sym, ap, ◌∙◌}
use Rattle.std.proofs.Common.{subst, map}
use Rattle.std.specs.Prelude.{Contains, find, if◌then◌else◌}
use Rattle.std.specs.List.{list_any}
use Rattle.std.specs.Option.{option_map_or}
use Rattle.std.specs.Ordering.{is_eq}
use Rattle.std.proofs.lemmas.Cmp.{tied_itself}
use Rattle.std.proofs.lemmas.List.{map-append}
use Rattle.terms.proofs.Options.{None_from_is_some}
use Rattle.terms.proofs.Searches.{is_some_find, list_any_map}
use Rattle.sorted.specs.Edits.{edit_key, edit_put}
use Rattle.terms.specs.Types.{Zone}
use Rattle.terms.specs.Lookups.{element_cmp, element_eq, element_key, element_of}
use Rattle.terms.specs.Rising.{Rises}
use Rattle.terms.proofs.ElementOrder.{element_cmp_total, element_ties, same_key}
use Rattle.zones_maps.specs.Delta.{ZoneEdits}
use Rattle.zones_maps.specs.Differing.{ElementEdit, AddsElementEdit, HasEditedElements, element_after}
use Rattle.sorted.specs.Turned.{TurnsAt, AreTurned}
use Rattle.sorted.specs.ElementKeys.{Key}
use Rattle.sorted.proofs.InTurn.{find_member}
use Rattle.sorted.proofs.Turning.{turned_none, turned_next}

abbrev put_key : ElementEdit → Key
put_key = edit_key element_key

module _ (zone : Zone) (all : List ElementEdit) where
  -- at these keys stands what the edits leave there
  abbrev pub AreDone : List ElementEdit → List ElementEdit → Type 0
  AreDone done edits =
      AreTurned element_cmp element_eq element_key zone.elements (element_after all zone) (map put_key done) edits

  pub done_none : (edits : List ElementEdit) → edits ≡ [] → AreDone [] edits
  done_none edits empty = subst (AreDone []) (sym empty)
      (turned_none element_cmp_total element_key element_eq element_ties same_key zone.elements
      (element_after all zone))

  module _ (rises : Rises element_cmp put_key all) where
    left_is : (d : ElementEdit) → Contains all d → element_after all zone (put_key d) ≡ edit_put d
    left_is d there =
        ap (λ o. option_map_or edit_put o (element_of zone (put_key d).0 (put_key d).1))
        (find_member element_cmp_total put_key element_eq element_ties all d (put_key d) rises there
        (element_ties (put_key d) (put_key d) ∙ ap is_eq (tied_itself element_cmp_total (put_key d))))

    turns : (d : ElementEdit) (old new : ZoneEdits) → Contains all d → AddsElementEdit zone d old new
        → TurnsAt element_cmp element_eq element_key zone.elements (element_after all zone) (put_key d) old.elements
        new.elements
    turns d old new there adds =
        elim adds [
          | inl same ↦ inl (ap (λ (v : ZoneEdits). v.elements) same.0, left_is d there ∙ same.1)
          | inr edit ↦ inr (
            d,
            ap (λ (v : ZoneEdits). v.elements) edit.0,
            record { at = refl; puts = sym (left_is d there); differs = edit.1 },
          )
        ]

    pub done_next : (done : List ElementEdit) (d : ElementEdit) (old new : ZoneEdits) → Contains all d
        → AreDone done old.elements → AddsElementEdit zone d old new → AreDone (done ++ d ∷ []) new.elements
    done_next done d old new there so_far adds =
        subst
        (λ ks. AreTurned element_cmp element_eq element_key zone.elements (element_after all zone) ks new.elements)
        (sym (map-append put_key done (d ∷ [])))
        (turned_next element_cmp_total element_key element_eq element_ties same_key zone.elements
        (element_after all zone) (map put_key done) (put_key d) old.elements new.elements so_far
        (turns d old new there adds))

  leaves : (edits : List ElementEdit) → AreDone all edits → (k : Key)
      → element_after edits zone k ≡ element_after all zone k
  leaves edits done k = done.leaves k ∙ by (list_any (λ j. element_eq j k) (map put_key all)) refl
    where
      by : (b : Bool) → list_any (λ j. element_eq j k) (map put_key all) ≡ b
          → (if b then element_after all zone k else element_of zone k.0 k.1) ≡ element_after all zone k
      by true among = refl
      by false out =
          sym (ap (λ o. option_map_or edit_put o (element_of zone k.0 k.1))
          (None_from_is_some (find (λ d. element_eq (put_key d) k) all)
          (is_some_find (λ d. element_eq (put_key d) k) all
          ∙ sym (list_any_map (λ j. element_eq j k) put_key all) ∙ out)))

  pub done_all : (old new : ZoneEdits) → new.entries ≡ old.entries → AreDone all new.elements
      → HasEditedElements zone all old new
  done_all old new entries done = record {
    entries = entries;
    leaves = leaves new.elements done;
    differ = done.differ;
  }

-- a put or a removal leaves the entries
pub entries_stay : (zone : Zone) (d : ElementEdit) (old new : ZoneEdits) → AddsElementEdit zone d old new
    → new.entries ≡ old.entries
entries_stay zone d old new adds =
    elim adds [
      | inl same ↦ ap (λ (v : ZoneEdits). v.entries) same.0
      | inr edit ↦ ap (λ (v : ZoneEdits). v.entries) edit.0
    ]
