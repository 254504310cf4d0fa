-- Edits that rise are done one after the other: what stood under the key of a later one still stands when it comes.
use Rattle.std.proofs.Common.{◌≡◌, Bool, true, false, List, [], ◌∷◌, ◌++◌, filter, find, None, get_or, refl, sym, ap}
use Rattle.std.proofs.Common.{◌∙◌}
use Rattle.std.proofs.Common.{append-nil}
use Rattle.std.specs.Option.{option_map_or, option_to_list}
use Rattle.std.specs.declared.cmp.Ordering.{Ordering}
use Rattle.std.specs.Ordering.{is_lt, is_eq}
use Rattle.std.specs.Cmp.{IsTotalOrder}
use Rattle.terms.proofs.Orderings.{Less_from_is_lt}
use Rattle.terms.proofs.Pairs.{AllPairs_front, AllPairs_parts, AllPairs_rest}
use Rattle.terms.proofs.Searches.{find_over}
use Rattle.sorted.specs.declared.edits.Edit.{Edit}
use Rattle.sorted.specs.Edits.{edit_key, edit_put, edited}
use Rattle.sorted.proofs.Editing.{find_edited, Rises_edited}
use Rattle.terms.specs.Rising.{Rises}
use Rattle.terms.proofs.SameLists.{none_behind}

module _ {X K : Type 0} {R : K → K → Ordering} (o : IsTotalOrder R) (key : X → K) (E : K → K → Bool)
    (ties : (a b : K) → E a b ≡ is_eq (R a b)) where
  -- what is found under a key stands there alone
  alone : (k : K) (xs : List X) → Rises R key xs
      → filter (λ x. E (key x) k) xs ≡ option_to_list (find (λ x. E (key x) k) xs)
  alone k [] rises = refl
  alone k (x ∷ xs) rises =
      by (E (key x) k) refl (alone k xs (AllPairs_rest (λ a b. is_lt (R (key a) (key b)) ≡ true) x xs rises))
    where
      by : (b : Bool) → E (key x) k ≡ b → filter (λ y. E (key y) k) xs ≡ option_to_list (find (λ y. E (key y) k) xs)
          → filter (λ y. E (key y) k) (x ∷ xs) ≡ option_to_list (find (λ y. E (key y) k) (x ∷ xs))
      by true here rest =
          rw here (ap (λ ys. x ∷ ys) (rest ∙ ap option_to_list (none_behind o key E ties x xs k rises here)))
      by false other rest = rw other rest

  pub still_stands : (front : List (Edit X K)) (edit : Edit X K) (xs : List X)
      → Rises R (edit_key key) (front ++ edit ∷ []) → Rises R key xs
      → filter (λ x. E (key x) (edit_key key edit)) (edited R key xs front)
      ≡ option_to_list (find (λ x. E (key x) (edit_key key edit)) xs)
  still_stands front edit xs rises rising =
      let k = edit_key key edit in
      let Before : Edit X K → Edit X K → Type 0 = λ a b. is_lt (R (edit_key key a) (edit_key key b)) ≡ true in
      let below = (AllPairs_parts Before front [] edit rises).0 in
      let none : find (λ d. E (edit_key key d) k) front ≡ None =
      ap (find (λ d. E (edit_key key d) k)) (sym (append-nil front))
      ∙ find_over (λ d. E (edit_key key d) k) front [] (λ i d h.
      ties (edit_key key (get_or front i d)) k
      ∙ ap is_eq (Less_from_is_lt (R (edit_key key (get_or front i d)) k) (below i d h))) in
      alone k (edited R key xs front) (Rises_edited o key front xs rising)
      ∙ ap option_to_list (find_edited o key E ties front (AllPairs_front Before front (edit ∷ []) rises) xs k
      ∙ ap (λ found. option_map_or edit_put found (find (λ x. E (key x) k) xs)) none)
