-- The elements that some SYSMODs change become those of another zone.
use Rattle.std.proofs.Common.{◌≡◌, ◌≢◌, inl, inr, List, [], ◌∷◌, ◌++◌, Option, refl, sym, ap, ◌∙◌, All}
use Rattle.std.proofs.Common.{Any, IsTrue, IsPermutation, subst}
use Rattle.std.specs.Prelude.{◌||◌, None, Some, IfSome, IsFalse, if◌then◌else◌}
use Rattle.std.specs.List.{list_any}
use Rattle.std.proofs.lemmas.List.Folds.{list_any_none, list_any-from_Any, list_any-append}
use Rattle.std.proofs.lemmas.List.Sorted.{list_any-IsPermutation}
use Rattle.terms.proofs.Searches.{find_gives, is_some_find, list_any_map}
use Rattle.sorted.specs.ElementKeys.{Key}
use Rattle.sorted.specs.declared.edits.Edit.{Edit}
use Rattle.sorted.specs.Edits.{after_edits}
use Rattle.terms.specs.declared.kinds.ElemType.{ElemType}
use Rattle.terms.specs.Types.{Text, Id, Change, Global, Element, Zone}
use Rattle.terms.specs.Lookups.{element_cmp, element_eq, element_key, element_of, has_change, changes_of}
use Rattle.terms.proofs.ElementOrder.{element_cmp_total, element_ties, same_key}
use Rattle.zones_maps.specs.Delta.{ZoneEdits}
use Rattle.sorted.specs.Turned.{AreTurned}
use Rattle.change.specs.Restoring.{changed_keys, all_changed, element_at, LeavesElement, PutsBack, ArePutBack}
use Rattle.sorted.proofs.Turning.{turned_none, turned_next}

-- what is found at a key has it
pub key_found : (zone : Zone) (type : ElemType) (name : Text)
    → IfSome (element_of zone type name) (λ e. element_key e ≡ (type, name))
key_found zone type name = by (element_of zone type name) refl
  where
    by : (o : Option Element) → element_of zone type name ≡ o → IfSome o (λ e. element_key e ≡ (type, name))
    by None at = tt
    by (Some e) at = same_key (element_key e) (type, name)
        (find_gives (λ (v : Element). element_eq (element_key v) (type, name)) zone.elements e at).0

module _ (zone accepted : Zone) where
  abbrev Turned : List Key → List (Edit Element Key) → Type 0
  Turned = AreTurned element_cmp element_eq element_key zone.elements (element_at accepted)

  pub put_back_none : (start : ZoneEdits) → start.elements ≡ [] → ArePutBack zone accepted [] start start
  put_back_none start empty = record {
    entries = refl;
    elements = subst (Turned []) (sym empty)
        (turned_none element_cmp_total element_key element_eq element_ties same_key zone.elements
        (element_at accepted));
  }

  pub put_back_next : (ks : List Key) (k : Key) (start old new : ZoneEdits) → ArePutBack zone accepted ks start old
      → PutsBack zone accepted k old new → ArePutBack zone accepted (ks ++ k ∷ []) start new
  put_back_next ks k start old new so_far puts = record {
    entries = puts.entries ∙ so_far.entries;
    elements = turned_next element_cmp_total element_key element_eq element_ties same_key zone.elements
        (element_at accepted) ks k old.elements new.elements so_far.elements puts.elements;
  }

  -- an element that is the same in both zones stays, another one is put or removed
  pub puts_none : (k : Key) (old : ZoneEdits) (here there : Option Element) → here ≡ element_at zone k
      → there ≡ element_at accepted k → here ≡ there → PutsBack zone accepted k old old
  puts_none k old here there at_here at_there same = record {
    entries = refl;
    elements = inl (refl, sym at_there ∙ sym same ∙ at_here);
  }

  pub puts_one : (k : Key) (old new : ZoneEdits) (here there : Option Element) → here ≡ element_at zone k
      → there ≡ element_at accepted k → here ≢ there → LeavesElement k there old new → PutsBack zone accepted k old new
  puts_one k old new here there at_here at_there other edits = record {
    entries = edits.entries;
    elements = inr (
      edits.edit,
      edits.elements,
      record {
        at = edits.at;
        puts = edits.puts ∙ at_there;
        differs = λ same. other (at_here ∙ sym same ∙ edits.puts);
      },
    );
  }

-- ---- whether a SYSMOD changes an element

module _ (g : Global) (type : ElemType) (name : Text) where
  by_one : (x : Id) → list_any (λ j. element_eq j (type, name)) (changed_keys g x) ≡ has_change g x type name
  by_one x =
      list_any_map (λ j. element_eq j (type, name)) (λ (h : Change). (h.elem_type, h.name)) (changes_of g x)
      ∙ sym (is_some_find (λ (h : Change). element_eq (h.elem_type, h.name) (type, name)) (changes_of g x))

  pub by_some : (xs : List Id)
      → list_any (λ j. element_eq j (type, name)) (all_changed g xs) ≡ list_any (λ x. has_change g x type name) xs
  by_some [] = refl
  by_some (x ∷ xs) =
      list_any-append (λ j. element_eq j (type, name)) (changed_keys g x) (all_changed g xs)
      ∙ ap (λ b. b || list_any (λ j. element_eq j (type, name)) (all_changed g xs)) (by_one x)
      ∙ ap (λ b. has_change g x type name || b) (by_some xs)

  module _ (zone accepted : Zone) (xs : List Id) (ks : List Key) (same : IsPermutation (all_changed g xs) ks)
      (edits : List (Edit Element Key))
      (turned : AreTurned element_cmp element_eq element_key zone.elements (element_at accepted) ks edits) where
    among : list_any (λ j. element_eq j (type, name)) ks ≡ list_any (λ x. has_change g x type name) xs
    among = sym (list_any-IsPermutation (λ j. element_eq j (type, name)) (all_changed g xs) ks same) ∙ by_some xs

    stands : after_edits element_eq element_key edits zone.elements (type, name)
        ≡ (if list_any (λ x. has_change g x type name) xs then element_of accepted type name
        else element_of zone type name)
    stands = turned.leaves (type, name)
        ∙ ap (λ b. if b then element_of accepted type name else element_of zone type name) among

    pub reverted : Any (λ x. IsTrue (has_change g x type name)) xs
        → after_edits element_eq element_key edits zone.elements (type, name) ≡ element_of accepted type name
    reverted some = stands ∙ ap (λ b. if b then element_of accepted type name else element_of zone type name)
        (list_any-from_Any (λ x. has_change g x type name) xs some)

    pub unchanged : All (λ x. IsFalse (has_change g x type name)) xs
        → after_edits element_eq element_key edits zone.elements (type, name) ≡ element_of zone type name
    unchanged none = stands ∙ ap (λ b. if b then element_of accepted type name else element_of zone type name)
        (list_any_none (λ x. has_change g x type name) xs none)
