-- What is found in a zone less what DELETE takes out of it.
use Rattle.std.proofs.Common.{◌≡◌, ◌∙◌, Bool, true, false, not, List, map, filter, find, Option, None, Some}
use Rattle.std.proofs.Common.{Contains, IsSome, is_some, refl, sym, ap, subst}
use Rattle.std.specs.Prelude.{◌&&◌, ◌==◌, if◌then◌else◌}
use Rattle.std.specs.Option.{option_map_or}
use Rattle.std.specs.Cmp.Lexicographic.{texts_ties}
use Rattle.std.specs.Str.{bytes_eq}
use Rattle.std.proofs.lemmas.Cmp.{nat_list_cmp_total}
use Rattle.std.proofs.lemmas.List.Folds.{Any-from_list_any, list_any-from_Any}
use Rattle.terms.proofs.ListMembers.{map_in, in_filter, filter_in, flat_in}
use Rattle.terms.proofs.Searches.{find_gives, find_some}
use Rattle.terms.specs.declared.kinds.ElemType.{ElemType}
use Rattle.terms.specs.Types.{Text, Id, type_number, Global, Entry, Element, Zone}
use Rattle.terms.specs.Lookups.{has_content, is_in, IsZone, entry_of, element_of, is_applied}
use Rattle.terms.specs.Choice.{Choice, del_of}
use Rattle.terms.specs.Over.{chain}
use Rattle.terms.specs.Deleted.{deletions, is_deleted, is_taken_out, entry_less, entries_less, zone_less}
use Rattle.terms.proofs.Ids.{is_in_from_Contains, Contains_from_is_in}
use Rattle.sorted.proofs.InTurn.{find_member}

module _ (g : Global) (c : Choice) where
  -- what deletions of several SYSMODs delete, those of one of them delete
  pub deleted_by_one : (ks : List Id) (x : Id) → is_deleted g c (deletions c ks) x ≡ true
      → (k : Id) × Contains ks k × (is_deleted g c (del_of c k) x ≡ true)
  deleted_by_one ks x deleted =
      let any = Any-from_list_any (λ y. is_in (deletions c ks) y) (chain g c x) deleted in
      let from = flat_in (del_of c) ks any.1 (Contains_from_is_in (deletions c ks) any.1 any.4) in (
        from.0,
        from.1,
        list_any-from_Any (λ y. is_in (del_of c from.0) y) (chain g c x)
            (any.0, any.1, any.2, any.3, is_in_from_Contains (del_of c from.0) any.1 from.2),
      )

  module _ (dels : List Id) (zone : Zone) where
    -- An element is there as long as no deletion meets its owner's chain.
    pub element_stays : (type : ElemType) (name : Text) (e : Element) → Contains zone.elements e
        → ((type_number e.elem_type == type_number type) && bytes_eq e.name name) ≡ true
        → is_deleted g c dels e.fmid ≡ false → IsSome (element_of (zone_less g c dels zone) type name)
    unfolding zone_less
    element_stays type name e is at stays =
        find_some (λ e. (type_number e.elem_type == type_number type) && bytes_eq e.name name)
        (filter (λ e. not (is_deleted g c dels e.fmid)) zone.elements) e
        (in_filter (λ e. not (is_deleted g c dels e.fmid)) zone.elements e is (ap not stays)) at

    -- and what is there was there
    pub element_was : (type : ElemType) (name : Text) (e : Element)
        → element_of (zone_less g c dels zone) type name ≡ Some e
        → Contains zone.elements e × (((type_number e.elem_type == type_number type) && bytes_eq e.name name) ≡ true)
    unfolding zone_less
    element_was type name e found =
        let gives = find_gives (λ e. (type_number e.elem_type == type_number type) && bytes_eq e.name name)
        (filter (λ e. not (is_deleted g c dels e.fmid)) zone.elements) e found in
        ((filter_in (λ e. not (is_deleted g c dels e.fmid)) zone.elements e gives.1).0, gives.0)

    -- No id comes to be applied.
    pub applied_was : IsZone zone → (x : Id) → is_applied zone x ≡ false
        → is_applied (zone_less g c dels zone) x ≡ false
    unfolding zone_less
    applied_was is_zone x not_applied = by (find (λ e. bytes_eq e.id x) less) refl
      where
        is_gone : Id → Bool
        is_gone = is_taken_out g c dels zone

        less : List Entry
        less = entries_less is_gone zone.entries

        undated : (e : Entry) (gone : Bool) → is_some e.applied ≡ false
            → is_some (if gone then None else e.applied) ≡ false
        undated e true none = refl
        undated e false none = none

        by : (o : Option Entry) → find (λ e. bytes_eq e.id x) less ≡ o
            → option_map_or (λ e. is_some e.applied) o false ≡ false
        by None at = refl
        by (Some e) at =
            let gives = find_gives (λ e. bytes_eq e.id x) less e at in
            let among = filter_in has_content (map (entry_less is_gone) zone.entries) e gives.1 in
            let from = map_in (entry_less is_gone) zone.entries e among.0 in
            let was : Entry = from.0 in
            let id : bytes_eq was.id x ≡ true = subst (λ e. bytes_eq e.id x ≡ true) (sym from.2) gives.0 in
            let found : entry_of zone x ≡ Some was =
            find_member nat_list_cmp_total (λ (e : Entry). e.id) bytes_eq texts_ties zone.entries was x is_zone.entries
            from.1 id in
            let none : is_some was.applied ≡ false =
            sym (ap (λ o. option_map_or (λ (e : Entry). is_some e.applied) o false) found)
            ∙ not_applied in
            sym (ap (λ e. is_some e.applied) from.2) ∙ undated was (is_gone was.id) none
