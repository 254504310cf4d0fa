-- What is new among edits, one edit after the other.
use Rattle.std.proofs.Common.{◌≡◌, ℕ, ◌+◌, ◌<◌, ◌≤◌, take, length, get_or, List, [], ◌∷◌, ◌++◌, map, Option, None, Some}
use Rattle.std.proofs.Common.{refl, sym, ap, ◌∙◌, append-nil}
use Rattle.std.specs.List.{filter_map}
use Rattle.std.proofs.lemmas.List.{map-append, take_all}
use Rattle.std.proofs.lemmas.List.Elements.{filter_map-append}
use Rattle.terms.proofs.Lists.{front_more}

module _ {D X R : Type 0} (new : D → Option X) (now : R → X) (edits : List D) (i : ℕ) (news : List R)
    (before : map now news ≡ filter_map new (take i edits)) where
  -- the next one is not new
  pub none_more : (d : D) → i < length edits → d ≡ get_or edits i d → new d ≡ None
      → map now news ≡ filter_map new (take (i + 1) edits)
  none_more d within at none =
      let own : filter_map new (d ∷ []) ≡ [] = rw none refl in
      before ∙ sym (ap (filter_map new) (front_more edits i d within at)
      ∙ filter_map-append new (take i edits) (d ∷ []) ∙ ap (λ xs. filter_map new (take i edits) ++ xs) own
      ∙ append-nil (filter_map new (take i edits)))

  -- the next one is new
  pub one_more : (d : D) → i < length edits → d ≡ get_or edits i d → (item : R) → new d ≡ Some (now item)
      → map now (news ++ item ∷ []) ≡ filter_map new (take (i + 1) edits)
  one_more d within at item some =
      let own : filter_map new (d ∷ []) ≡ now item ∷ [] = rw some refl in
      map-append now news (item ∷ []) ∙ ap (λ xs. xs ++ now item ∷ []) before
      ∙ sym (ap (filter_map new) (front_more edits i d within at)
      ∙ filter_map-append new (take i edits) (d ∷ []) ∙ ap (λ xs. filter_map new (take i edits) ++ xs) own)

  -- there is no next one
  pub all_found : length edits ≤ i → map now news ≡ filter_map new edits
  all_found end = before ∙ ap (filter_map new) (take_all i edits end)
