-- Whatever zone the edits of elements make of the old one has the elements that the install asks for.
use Rattle.std.proofs.Common.{◌≡◌, inr, Bool, true, false, List, [], ◌∷◌, Some, refl, sym, ap}
use Rattle.std.proofs.Common.{◌∙◌, subst, true≢false, IsTrue, map}
use Rattle.std.specs.Prelude.{find, Contains, IsFalse, fold}
use Rattle.std.specs.Option.{option_map_or}
use Rattle.std.specs.Ordering.{is_eq}
use Rattle.std.proofs.lemmas.Cmp.{tied_itself}
use Rattle.terms.specs.declared.kinds.ElemType.{ElemType}
use Rattle.sorted.specs.declared.edits.Edit.TheVariants.{Put}
use Rattle.terms.specs.Types.{Text, Id, Element, Zone}
use Rattle.terms.specs.Lookups.{has_change, element_cmp, element_key, element_of}
use Rattle.terms.specs.Rising.{with_item}
use Rattle.terms.specs.Lookups.{element_eq}
use Rattle.sorted.specs.Edits.{edit_key, edit_put}
use Rattle.terms.specs.Install.{Installation, TakesEffect, cleared, HasElementAfter}
use Rattle.terms.proofs.ElementOrder.{element_cmp_total, element_ties}
use Rattle.terms.proofs.ListMembers.{in_map, map_in}
use Rattle.zones_maps.specs.Differing.{ElementEdit, element_after}
use Rattle.change.specs.Elements.{AreElementsAfter}
use Rattle.change.specs.Puts.{with_element, with_elements}
use Rattle.sorted.specs.ElementKeys.{Key}
use Rattle.terms.proofs.ElementOrder.{same_key}
use Rattle.sorted.proofs.InTurn.{find_member, in_turn_none, in_turn_some}
use Rattle.std.proofs.lemmas.List.Elements.{All-contains}

put : Element → ElementEdit
put e = Put e

abbrev put_key : ElementEdit → Key
put_key = edit_key element_key

abbrev put_all : List ElementEdit → List Element → List ElementEdit
put_all old es = fold (with_item element_cmp put_key) old (map put es)

put_are : (edits : List ElementEdit) (es : List Element) → with_elements edits es ≡ put_all edits es
unfolding put
put_are edits [] = refl
put_are edits (e ∷ es) = put_are (with_element edits e) es

-- ---- what stands in the new zone

module _ (i : Installation) (zone : Zone) (es : List Element) (after : AreElementsAfter i es)
    (old : List ElementEdit) where
  itself : (k : Key) → element_eq k k ≡ true
  itself k = element_ties k k ∙ ap is_eq (tied_itself element_cmp_total k)

  -- an element of the list stands at its key
  found : (e : Element) (k : Key) → Contains es e → element_key e ≡ k
      → find (λ d. element_eq (put_key d) k) (put_all old es) ≡ Some (put e)
  unfolding put
  found e k is key =
      in_turn_some element_cmp_total put_key element_eq element_ties (map put es) old k (put e) hit only
      (inr (in_map put es e is))
    where
      hit : element_eq (element_key e) k ≡ true
      hit = ap (λ q. element_eq q k) key ∙ itself k

      only : (d : ElementEdit) → Contains (map put es) d → element_eq (put_key d) k ≡ true → d ≡ put e
      only d there at =
          let m = map_in put es d there in
          let again : element_eq (element_key m.0) k ≡ true = ap (λ o. element_eq (put_key o) k) m.2 ∙ at in
          let both : Some m.0 ≡ Some e =
          sym (find_member element_cmp_total element_key element_eq element_ties es m.0 k after.rising m.1 again)
          ∙ find_member element_cmp_total element_key element_eq element_ties es e k after.rising is hit in
          let one : m.0 ≡ e = cc both in
          sym m.2 ∙ ap put one

  -- at the key of an element that nothing changes stands what stood there
  not_found : (type : ElemType) (name : Text)
      → ((x : Id) → TakesEffect i x → IsFalse (has_change i.global x type name))
      → find (λ d. element_eq (put_key d) (type, name)) (put_all old es)
      ≡ find (λ d. element_eq (put_key d) (type, name)) old
  unfolding put
  not_found type name none =
      in_turn_none element_cmp_total put_key element_eq element_ties (map put es) old (type, name)
      (λ d there. by d there (element_eq (put_key d) (type, name)) refl)
    where
      by : (d : ElementEdit) → Contains (map put es) d → (b : Bool) → element_eq (put_key d) (type, name) ≡ b
          → b ≡ false
      by d there false at = refl
      by d there true at =
          let m = map_in put es d there in
          let key : element_key m.0 ≡ (type, name) =
          same_key (element_key m.0) (type, name) (ap (λ o. element_eq (put_key o) (type, name)) m.2 ∙ at) in
          let changes = All-contains
          (λ e. (x : Id) × TakesEffect i x × IsTrue (has_change i.global x e.elem_type e.name)) es m.0 after.only m.1 in
          absurd (true≢false (sym changes.2
          ∙ ap (λ (k : Key). has_change i.global changes.0 k.0 k.1) key ∙ none changes.0 changes.1))

  module _ (less : (type : ElemType) (name : Text)
      → element_after old zone (type, name) ≡ element_of (cleared i) type name)
      (new : Zone) (changed : (type : ElemType) (name : Text)
      → element_of new type name ≡ element_after (with_elements old es) zone (type, name)) where
    at_key : (type : ElemType) (name : Text)
        → element_of new type name ≡ element_after (put_all old es) zone (type, name)
    at_key type name = changed type name ∙ ap (λ ds. element_after ds zone (type, name)) (put_are old es)

    pub element_changed : (type : ElemType) (name : Text) (x : Id) → TakesEffect i x
        → IsTrue (has_change i.global x type name)
        → (e : Element) × (element_of new type name ≡ Some e) × HasElementAfter i type name e
    unfolding put
    element_changed type name x effect has =
        let at = after.changed x type name effect has in (
          at.0,
          at_key type name ∙ ap (λ o. option_map_or edit_put o (element_of zone type name))
              (found at.0 (type, name) at.1 at.2),
          subst (λ (k : Key). HasElementAfter i k.0 k.1 at.0) at.2
              (All-contains (λ e. HasElementAfter i e.elem_type e.name e) es at.0 after.after at.1),
        )

    pub element_unchanged : (type : ElemType) (name : Text)
        → ((x : Id) → TakesEffect i x → IsFalse (has_change i.global x type name))
        → element_of new type name ≡ element_of (cleared i) type name
    element_unchanged type name none =
        at_key type name
        ∙ ap (λ o. option_map_or edit_put o (element_of zone type name)) (not_found type name none)
        ∙ less type name
