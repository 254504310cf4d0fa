-- The elements that deletions take out of a zone are removed.
use Rattle.std.proofs.Common.{◌≡◌, Bool, true, false, List, [], ◌∷◌, Option, Some, None, refl, sym, ap, ◌∙◌, true≢false}
use Rattle.std.proofs.Common.{inr, not, map, filter, ℕ, ◌<◌, ◌+◌, ◌++◌, length, take, get_or}
use Rattle.std.specs.Prelude.{find, Contains, fold, if◌then◌else◌}
use Rattle.std.specs.Option.{option_map_or}
use Rattle.std.proofs.lemmas.List.{take_more}
use Rattle.std.proofs.lemmas.List.Sums.{fold-append}
use Rattle.terms.specs.declared.kinds.ElemType.{ElemType}
use Rattle.sorted.specs.declared.edits.Edit.TheVariants.{Remove}
use Rattle.terms.specs.Types.{Text, Element}
use Rattle.terms.specs.Lookups.{IsZone, element_cmp, element_key, element_of}
use Rattle.terms.specs.Rising.{with_item}
use Rattle.terms.specs.Deleted.{is_deleted}
use Rattle.terms.proofs.NothingDeleted.{is_deleted_none}
use Rattle.terms.specs.Lookups.{element_eq}
use Rattle.sorted.specs.Edits.{edit_key, edit_put, after_edits}
use Rattle.terms.proofs.ElementOrder.{element_cmp_total, element_ties}
use Rattle.terms.proofs.ListMembers.{in_map, map_in, in_filter, filter_in}
use Rattle.terms.proofs.Searches.{find_gives}
use Rattle.zones.proofs.Filtered.{passing}
use Rattle.zones.proofs.Lookups.{element_of_less}
use Rattle.change.specs.declared.deleting.Deleting.{Deleting}
use Rattle.zones.specs.Gone.{is_cut, left_of}
use Rattle.change.specs.Deleting.{choice_of}
use Rattle.zones_maps.specs.Differing.{ElementEdit}
use Rattle.change.specs.Puts.{less_element, less_elements}
use Rattle.sorted.specs.ElementKeys.{Key}
use Rattle.sorted.proofs.InTurn.{find_member, in_turn_none, in_turn_some}

removal : Element → ElementEdit
removal e = Remove (element_key e)

abbrev put_key : ElementEdit → Key
put_key = edit_key element_key

module _ (d : Deleting) where
  cut : Element → Bool
  cut e = is_cut d.left e.fmid

  abbrev removals : List Element → List ElementEdit
  removals es = map removal (filter cut es)

  abbrev all_removed : List ElementEdit → List Element → List ElementEdit
  all_removed old es = fold (with_item element_cmp put_key) old (removals es)

  -- one element more
  pub removed_next : (edits : List ElementEdit) (es : List Element) (k : ℕ) (x : Element) → k < length es
      → x ≡ get_or es k x
      → less_element d (less_elements d edits (take k es)) x ≡ less_elements d edits (take (k + 1) es)
  removed_next edits es k x below at =
      sym (ap (less_elements d edits) (take_more es k x below ∙ ap (λ y. take k es ++ y ∷ []) (sym at))
      ∙ fold-append (less_element d) edits (take k es) (x ∷ []))

  -- no deletions remove nothing
  pub removed_none : d.left.dels.now ≡ [] → (edits : List ElementEdit) (es : List Element) → edits
      ≡ less_elements d edits es
  removed_none no_dels edits [] = refl
  removed_none no_dels edits (e ∷ es) =
      sym (stays (is_cut d.left e.fmid) uncut) ∙ removed_none no_dels (less_element d edits e) es
    where
      uncut : is_cut d.left e.fmid ≡ false
      uncut = ap (λ ds. is_deleted d.left.vers.now.global.now (choice_of d) ds e.fmid) no_dels
          ∙ is_deleted_none d.left.vers.now.global.now (choice_of d) e.fmid

      stays : (b : Bool) → b ≡ false
          → (if b then with_item element_cmp put_key edits (Remove (element_key e)) else edits) ≡ edits
      stays true is = absurd (true≢false is)
      stays false is = refl

  removed_are : (edits : List ElementEdit) (es : List Element)
      → less_elements d edits es ≡ all_removed edits es
  unfolding removal cut
  removed_are edits [] = refl
  removed_are edits (e ∷ es) = removed_are (less_element d edits e) es ∙ by (is_cut d.left e.fmid) refl
    where
      by : (b : Bool) → is_cut d.left e.fmid ≡ b
          → all_removed (less_element d edits e) es ≡ all_removed edits (e ∷ es)
      by true at = rw at refl
      by false at = rw at refl

  module _ (is_zone : IsZone d.left.zone.now) (type : ElemType) (name : Text) where
    abbrev key : Key
    key = (type, name)

    abbrev elements : List Element
    elements = d.left.zone.now.elements

    abbrev at_key : ElementEdit → Bool
    at_key r = element_eq (put_key r) key

    -- an element of the zone that has the key is the one that is found
    only_one : (e m : Element) → element_of d.left.zone.now type name ≡ Some e → Contains elements m
        → element_eq (element_key m) key ≡ true → m ≡ e
    only_one e m at there hit =
        let both : Some m ≡ Some e =
        sym (find_member element_cmp_total element_key element_eq element_ties elements m key is_zone.elements there
        hit) ∙ at in
        cc both

    from_element : (r : ElementEdit) → Contains (removals elements) r
        → (m : Element) × Contains elements m × (is_cut d.left m.fmid ≡ true) × (removal m ≡ r)
    unfolding cut
    from_element r there =
        let m = map_in removal (filter cut elements) r there in
        let among = filter_in cut elements m.0 m.1 in
        (m.0, among.0, among.1, m.2)

    no_removal : ((m : Element) → Contains elements m → is_cut d.left m.fmid ≡ true
        → element_eq (element_key m) key ≡ true → ⊥)
        → find at_key (all_removed [] elements) ≡ None
    unfolding removal
    no_removal none =
        in_turn_none element_cmp_total put_key element_eq element_ties (removals elements) [] key
        (λ r there. by r there (at_key r) refl)
      where
        by : (r : ElementEdit) → Contains (removals elements) r → (b : Bool) → at_key r ≡ b → b ≡ false
        by r there false hit = refl
        by r there true hit =
            let m = from_element r there in
            absurd (none m.0 m.1 m.2 (ap at_key m.3 ∙ hit))

    one_removal : (e : Element) → element_of d.left.zone.now type name ≡ Some e → is_cut d.left e.fmid ≡ true
        → find at_key (all_removed [] elements) ≡ Some (removal e)
    unfolding removal cut
    one_removal e at gone =
        let gives = find_gives (λ m. element_eq (element_key m) key) elements e at in
        in_turn_some element_cmp_total put_key element_eq element_ties (removals elements) [] key (removal e)
        gives.0
        (λ r there hit. let m = from_element r there in
        sym m.3 ∙ ap removal (only_one e m.0 at m.1 (ap at_key m.3 ∙ hit)))
        (inr (in_map removal (filter cut elements) e (in_filter cut elements e gives.1 gone)))

    pub removed_at : (start : List ElementEdit) → start ≡ []
        → after_edits element_eq element_key (less_elements d start elements) elements key
        ≡ element_of (left_of d.left) type name
    unfolding removal
    removed_at start empty =
        ap (λ edits. after_edits element_eq element_key edits elements key)
        (removed_are start elements ∙ ap (λ old. all_removed old elements) empty)
        ∙ by (element_of d.left.zone.now type name) refl
      where
        left_is : (o : Option Element) → element_of d.left.zone.now type name ≡ o
            → element_of (left_of d.left) type name ≡ passing (λ e. not (is_cut d.left e.fmid)) o
        left_is o at =
            element_of_less d.left.vers.now.global.now (choice_of d) d.left.dels.now d.left.zone.now is_zone type name
            ∙ ap (passing (λ e. not (is_cut d.left e.fmid))) at

        stands : find at_key (all_removed [] elements) ≡ None
            → after_edits element_eq element_key (all_removed [] elements) elements key
            ≡ element_of d.left.zone.now type name
        stands none = ap (λ o. option_map_or edit_put o (element_of d.left.zone.now type name)) none

        by_cut : (e : Element) → element_of d.left.zone.now type name ≡ Some e → (b : Bool) → is_cut d.left e.fmid ≡ b
            → after_edits element_eq element_key (all_removed [] elements) elements key
            ≡ element_of (left_of d.left) type name
        by_cut e at true gone =
            ap (λ o. option_map_or edit_put o (element_of d.left.zone.now type name)) (one_removal e at gone)
            ∙ sym (left_is (Some e) at ∙ ap (λ b. if not b then Some e else None) gone)
        by_cut e at false stays =
            stands (no_removal (λ m there gone hit. true≢false (sym gone
            ∙ ap (λ v. is_cut d.left v.fmid) (only_one e m at there hit) ∙ stays)))
            ∙ at ∙ sym (left_is (Some e) at ∙ ap (λ b. if not b then Some e else None) stays)

        by : (o : Option Element) → element_of d.left.zone.now type name ≡ o
            → after_edits element_eq element_key (all_removed [] elements) elements key
            ≡ element_of (left_of d.left) type name
        by None at =
            stands (no_removal (λ m there gone hit. missing m there hit)) ∙ at
            ∙ sym (left_is None at)
          where
            missing : (m : Element) → Contains elements m → element_eq (element_key m) key ≡ true → ⊥
            missing m there hit =
                let both : Some m ≡ None =
                sym (find_member element_cmp_total element_key element_eq element_ties elements m key is_zone.elements
                there hit) ∙ at in
                cc both
        by (Some e) at = by_cut e at (is_cut d.left e.fmid) refl
