-- A zone that SYSMODs are taken out of keeps its forms, and what its entries and elements say has the forms.
use Rattle.std.proofs.Common.{◌≡◌, Bool, true, false, not, List, [], Option, Some, None, All, Contains, IfSome, arith}
use Rattle.std.proofs.Common.{IsTrue, refl, subst, filter, map}
use Rattle.std.specs.Prelude.{if◌then◌else◌, ◌&&◌, ◌==◌}
use Rattle.std.specs.Option.{option_map_or, option_and_then}
use Rattle.std.specs.Str.{bytes_eq}
use Rattle.std.proofs.lemmas.List.Elements.{All-nil, All-filter, All-map, All-contains, All-weaker}
use Rattle.std.proofs.lemmas.List.Kept.{AllPairs-filter}
use Rattle.terms.proofs.ListMembers.{none_in}
use Rattle.terms.proofs.Searches.{All_find, find_gives}
use Rattle.terms.proofs.TextOrder.{same_from}
use Rattle.terms.specs.declared.kinds.ElemType.{ElemType}
use Rattle.terms.specs.Types.{Text, Id, Global, Entry, Element, Zone, type_number, Applied}
use Rattle.terms.specs.Lookups.{is_before, has_content, entry_of, element_of, applied_of, supby_of, delby_of, waived_of}
use Rattle.terms.specs.Choice.{Choice}
use Rattle.terms.specs.Deleted.{is_deleted, is_taken_out, entry_less, entries_less, zone_less}
use Rattle.terms.specs.Forms.{IsId}
use Rattle.store_schema.specs.Forms.{AreSorted, HasAppliedForms, HasEntryForms, HasElementForms, HasZoneForms}

-- no ids
pub none_listed : AreSorted IsId []
none_listed = record { each = All-nil IsId; rising = λ i j d up below. absurd (omega arith) }

-- the ids of a list that pass a test
pub listed_filter : (test : Id → Bool) (ids : List Id) → AreSorted IsId ids → AreSorted IsId (filter test ids)
listed_filter test ids listed = record {
  each = All-filter test IsId ids listed.each;
  rising = AllPairs-filter (λ x y. IsTrue (is_before x y)) test ids listed.rising;
}

-- an entry where some SYSMODs are gone
pub entry_less_forms : (is_gone : Id → Bool) (e : Entry) → HasEntryForms e → HasEntryForms (entry_less is_gone e)
entry_less_forms is_gone e forms = by (is_gone e.id)
  where
    by : (gone : Bool) → HasEntryForms (record e {
      applied = if gone then None else e.applied;
      supby = filter (λ y. not (is_gone y)) e.supby;
      waived = if gone then [] else e.waived;
    })
    by true = record {
      id = forms.id;
      applied = tt;
      supby = listed_filter (λ y. not (is_gone y)) e.supby forms.supby;
      delby = forms.delby;
      waived = none_listed;
      waived_if_applied = λ some. absurd (some refl);
    }
    by false = record {
      id = forms.id;
      applied = forms.applied;
      supby = listed_filter (λ y. not (is_gone y)) e.supby forms.supby;
      delby = forms.delby;
      waived = forms.waived;
      waived_if_applied = forms.waived_if_applied;
    }

pub entries_less_forms : (is_gone : Id → Bool) (es : List Entry) → All HasEntryForms es
    → All HasEntryForms (entries_less is_gone es)
entries_less_forms is_gone es forms =
    All-filter has_content HasEntryForms (map (entry_less is_gone) es)
    (All-map HasEntryForms (entry_less is_gone) es
    (All-weaker HasEntryForms (λ e. HasEntryForms (entry_less is_gone e)) (entry_less_forms is_gone) es forms))

-- the zone less what DELETE takes out of it
pub zone_less_forms : (g : Global) (c : Choice) (dels : List Id) (zone : Zone) → HasZoneForms zone
    → HasZoneForms (zone_less g c dels zone)
unfolding zone_less
zone_less_forms g c dels zone forms = record {
  srel = forms.srel;
  entries = entries_less_forms (is_taken_out g c dels zone) zone.entries forms.entries;
  elements = All-filter (λ e. not (is_deleted g c dels e.fmid)) HasElementForms zone.elements forms.elements;
}

-- What a zone says of an id.
module _ (zone : Zone) (forms : HasZoneForms zone) where
  entry_found : (x : Id) (e : Entry) → entry_of zone x ≡ Some e → HasEntryForms e × IsId x
  entry_found x e found =
      let has = All_find HasEntryForms (λ e. bytes_eq e.id x) zone.entries e forms.entries found in
      (has, subst IsId (same_from e.id x (find_gives (λ e. bytes_eq e.id x) zone.entries e found).0) has.id)

  pub applied_forms : (x : Id) (a : Applied) → applied_of zone x ≡ Some a → IsId x × HasAppliedForms a
  applied_forms x a = by (entry_of zone x) refl
    where
      by : (e : Option Entry) → entry_of zone x ≡ e → option_and_then (λ e. e.applied) e ≡ Some a
          → IsId x × HasAppliedForms a
      by None found at = absurd (cc at)
      by (Some e) found at = let is = entry_found x e found in
          (is.1, subst (λ o. IfSome o HasAppliedForms) at is.0.applied)

  pub delby_forms : (x y : Id) → delby_of zone x ≡ Some y → IsId x × IsId y
  delby_forms x y = by (entry_of zone x) refl
    where
      by : (e : Option Entry) → entry_of zone x ≡ e → option_and_then (λ e. e.delby) e ≡ Some y → IsId x × IsId y
      by None found at = absurd (cc at)
      by (Some e) found at = let is = entry_found x e found in (is.1, subst (λ d. IfSome d IsId) at is.0.delby)

  -- an id of a list of an entry
  in_entry : (list : Entry → List Id) → ((e : Entry) → HasEntryForms e → All IsId (list e)) → (x y : Id)
      → Contains (option_map_or list (entry_of zone x) []) y → IsId x × IsId y
  in_entry list each x y = by (entry_of zone x) refl
    where
      by : (e : Option Entry) → entry_of zone x ≡ e → Contains (option_map_or list e []) y → IsId x × IsId y
      by None found there = absurd (none_in y there)
      by (Some e) found there = let is = entry_found x e found in
          (is.1, All-contains IsId (list e) y (each e is.0) there)

  pub supby_forms : (x y : Id) → Contains (supby_of zone x) y → IsId x × IsId y
  supby_forms = in_entry (λ e. e.supby) (λ e has. has.supby.each)

  pub waived_forms : (x z : Id) → Contains (waived_of zone x) z → IsId x × IsId z
  waived_forms = in_entry (λ e. e.waived) (λ e has. has.waived.each)

  pub element_forms : (type : ElemType) (name : Text) (e : Element) → element_of zone type name ≡ Some e
      → HasElementForms e
  element_forms type name e found =
      All_find HasElementForms (λ e. (type_number e.elem_type == type_number type) && bytes_eq e.name name)
      zone.elements e forms.elements found
