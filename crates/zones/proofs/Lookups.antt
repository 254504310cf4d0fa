-- Look-ups in a zone less deletions.
use Rattle.std.proofs.Common.{◌≡◌, Bool, true, false, not, List, [], ◌∷◌, filter, map, refl, sym, ap, ◌∙◌}
use Rattle.std.proofs.Common.{Option, None, Some, is_some, IsTrue}
use Rattle.std.specs.Prelude.{◌||◌, ◌&&◌, if◌then◌else◌}
use Rattle.std.specs.Option.{option_map, option_map_or}
use Rattle.std.specs.Cmp.Lexicographic.{texts_ties}
use Rattle.std.specs.Str.{bytes_eq}
use Rattle.std.proofs.lemmas.Cmp.{nat_list_cmp_total}
use Rattle.std.proofs.lemmas.Slice.Eq.{bytes_eq-Decides}
use Rattle.terms.proofs.Pairs.{pairs_map}
use Rattle.terms.proofs.Searches.{find_map, find_passes}
use Rattle.terms.specs.declared.kinds.ElemType.{ElemType}
use Rattle.terms.specs.Types.{Text, Id, Global, Entry, Element, Zone, Applied}
use Rattle.terms.specs.Lookups.{is_nil, has_content, is_before, is_applied, is_supplied, entry_of, supby_of, element_of}
use Rattle.terms.specs.Lookups.{element_key, IsZone}
use Rattle.terms.specs.Choice.{Choice}
use Rattle.terms.specs.Lookups.{element_eq}
use Rattle.terms.specs.Deleted.{is_deleted, is_taken_out, entry_less, zone_less}
use Rattle.terms.proofs.ElementOrder.{element_cmp_total, element_ties}
use Rattle.zones.proofs.Filtered.{passing, find_filter}

-- what a look-up reads of an entry, if there is one
applied_in : Option Entry → Bool
applied_in o = option_map_or (λ e. is_some e.applied) o false

supby_in : Option Entry → List Id
supby_in o = option_map_or (λ e. e.supby) o []

-- an entry that is not held has no date and no SUPBY
held_applied : (e : Entry) → applied_in (passing has_content (Some e)) ≡ is_some e.applied
unfolding applied_in
held_applied e = by (is_some e.applied) refl (has_content e) refl
  where
    by : (b : Bool) → is_some e.applied ≡ b → (h : Bool) → has_content e ≡ h
        → applied_in (passing has_content (Some e)) ≡ is_some e.applied
    by b is true held = rw held refl
    by true is false held = let impossible : true ≡ false = rw is at held in cc
    by false is false held = rw held (sym is)

held_supby : (e : Entry) → supby_in (passing has_content (Some e)) ≡ e.supby
unfolding supby_in
held_supby e = by (is_some e.applied) refl e.supby refl (has_content e) refl
  where
    by : (b : Bool) → is_some e.applied ≡ b → (ids : List Id) → e.supby ≡ ids → (h : Bool) → has_content e ≡ h
        → supby_in (passing has_content (Some e)) ≡ e.supby
    by b is ids at true held = rw held refl
    by b is [] at false held = rw held (sym at)
    by true is (x ∷ xs) at false held = let impossible : true ≡ false = rw is at held in cc
    by false is (x ∷ xs) at false held = let impossible : true ≡ false = rw (is, at) at held in cc

-- what is applied, less what is deleted of it
date_left : (date : Option Applied) (deleted : Bool)
    → is_some (if (is_some date && deleted) then None else date) ≡ (is_some date && not deleted)
date_left None deleted = refl
date_left (Some d) true = refl
date_left (Some d) false = refl

module _ (g : Global) (c : Choice) (dels : List Id) (zone : Zone) (z : IsZone zone) where
  abbrev is_gone : Id → Bool
  is_gone = is_taken_out g c dels zone

  -- the entry, less what is gone, if anything of it is left
  pub entry_of_less : (x : Id) → entry_of (zone_less g c dels zone) x
      ≡ passing has_content (option_map (entry_less is_gone) (entry_of zone x))
  unfolding zone_less
  entry_of_less x =
      find_filter nat_list_cmp_total (λ (e : Entry). e.id) bytes_eq texts_ties has_content x
      (map (entry_less is_gone) zone.entries)
      (pairs_map (λ e f. IsTrue (is_before e.id f.id)) (λ e f. IsTrue (is_before e.id f.id)) (entry_less is_gone)
      (λ e f low. low) zone.entries z.entries)
      ∙ ap (passing has_content) (find_map (λ e. bytes_eq e.id x) (entry_less is_gone) (λ e. refl) zone.entries)

  -- applied is what was applied and is not deleted
  pub is_applied_less : (x : Id) → is_applied (zone_less g c dels zone) x
      ≡ (is_applied zone x && not (is_deleted g c dels x))
  unfolding applied_in
  is_applied_less x = ap applied_in (entry_of_less x) ∙ by (entry_of zone x) refl
    where
      by : (o : Option Entry) → entry_of zone x ≡ o
          → applied_in (passing has_content (option_map (entry_less is_gone) o))
          ≡ (applied_in (entry_of zone x) && not (is_deleted g c dels x))
      by None at = ap (λ o. applied_in o && not (is_deleted g c dels x)) (sym at)
      by (Some e) at =
          let same : e.id ≡ x = (bytes_eq-Decides e.id x).0 (find_passes (λ e. bytes_eq e.id x) zone.entries e at) in
          let gone : is_gone e.id ≡ (is_some e.applied && is_deleted g c dels x) =
          ap is_gone same ∙ ap (λ o. applied_in o && is_deleted g c dels x) at in
          held_applied (entry_less is_gone e)
          ∙ ap (λ b. is_some (if b then None else e.applied)) gone
          ∙ date_left e.applied (is_deleted g c dels x)
          ∙ ap (λ o. applied_in o && not (is_deleted g c dels x)) (sym at)

  -- what supersedes it, less what is gone
  pub supby_of_less : (x : Id) → supby_of (zone_less g c dels zone) x ≡ filter (λ y. not (is_gone y)) (supby_of zone x)
  unfolding supby_in
  supby_of_less x = ap supby_in (entry_of_less x) ∙ by (entry_of zone x) refl
    where
      by : (o : Option Entry) → entry_of zone x ≡ o
          → supby_in (passing has_content (option_map (entry_less is_gone) o))
          ≡ filter (λ y. not (is_gone y)) (supby_in (entry_of zone x))
      by None at = ap (λ o. filter (λ y. not (is_gone y)) (supby_in o)) (sym at)
      by (Some e) at = held_supby (entry_less is_gone e)
          ∙ ap (λ o. filter (λ y. not (is_gone y)) (supby_in o)) (sym at)

  pub is_supplied_less : (x : Id) → is_supplied (zone_less g c dels zone) x
      ≡ (is_applied (zone_less g c dels zone) x || not (is_nil (filter (λ y. not (is_gone y)) (supby_of zone x))))
  is_supplied_less x = ap (λ ids. is_applied (zone_less g c dels zone) x || not (is_nil ids)) (supby_of_less x)

  -- the element, if its owner's chain is not deleted
  pub element_of_less : (type : ElemType) (name : Text) → element_of (zone_less g c dels zone) type name
      ≡ passing (λ e. not (is_deleted g c dels e.fmid)) (element_of zone type name)
  unfolding zone_less
  element_of_less type name = find_filter element_cmp_total element_key element_eq element_ties
      (λ e. not (is_deleted g c dels e.fmid)) (type, name) zone.elements z.elements

  pub element_of_none : (type : ElemType) (name : Text) → None ≡ element_of zone type name
      → element_of (zone_less g c dels zone) type name ≡ None
  element_of_none type name at = element_of_less type name
      ∙ ap (passing (λ e. not (is_deleted g c dels e.fmid))) (sym at)

  pub element_of_some : (type : ElemType) (name : Text) (e : Element) (deleted : Bool)
      → Some e ≡ element_of zone type name → deleted ≡ is_deleted g c dels e.fmid
      → element_of (zone_less g c dels zone) type name ≡ (if deleted then None else Some e)
  element_of_some type name e deleted at is =
      element_of_less type name
      ∙ ap (passing (λ e. not (is_deleted g c dels e.fmid))) (sym at)
      ∙ ap (λ b. if not b then Some e else None) (sym is)
      ∙ by deleted
    where
      by : (b : Bool) → (if not b then Some e else None) ≡ (if b then None else Some e)
      by true = refl
      by false = refl
