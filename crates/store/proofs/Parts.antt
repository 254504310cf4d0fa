-- Edits of a list by a key, as the items in some order.
use Rattle.std.proofs.Common.{◌≡◌, Bool, true, false, not, List, [], ◌∷◌, IsPermutation, refl, ap, ◌∙◌, append_assoc}
use Rattle.std.specs.Prelude.{filter}
use Rattle.std.specs.declared.cmp.Ordering.{Ordering}
use Rattle.std.specs.declared.cmp.Ordering.TheVariants.{Less, Equal, Greater}
use Rattle.std.specs.Ordering.{is_lt, is_eq, ordering_reverse}
use Rattle.std.specs.Cmp.{IsTotalOrder}
use Rattle.std.proofs.lemmas.List.Sorted.{IsPermutation-refl, IsPermutation-trans, IsPermutation-cons}
use Rattle.std.proofs.lemmas.List.Sorted.{IsPermutation-middle}
use Rattle.terms.specs.Rising.{before, behind, with_item, without_key}

module _ {X K : Type 0} {R : K → K → Ordering} (o : IsTotalOrder R) (key : X → K) (E : K → K → Bool)
    (ties : (a b : K) → E a b ≡ is_eq (R a b)) where
  -- the items of other keys, in an order of their own
  pub left_parts : (k : K) (xs : List X) → IsPermutation (without_key R key xs k) (filter (λ x. not (E (key x) k)) xs)
  left_parts k [] = IsPermutation-refl []
  left_parts k (x ∷ xs) = by_order (left_parts k xs) (R (key x) k) refl
    where
      by_order : IsPermutation (without_key R key xs k) (filter (λ y. not (E (key y) k)) xs) → (r : Ordering)
          → R (key x) k ≡ r
          → IsPermutation (without_key R key (x ∷ xs) k) (filter (λ y. not (E (key y) k)) (x ∷ xs))
      by_order go Less e =
          let back : is_lt (R k (key x)) ≡ false = ap is_lt (o.antisymm k (key x) ∙ ap ordering_reverse e) in
          let other : E (key x) k ≡ false = ties (key x) k ∙ ap is_eq e in
          rw (e, back, other) (IsPermutation-cons x _ _ go)
      by_order go Equal e =
          let back : is_lt (R k (key x)) ≡ false = ap is_lt (o.antisymm k (key x) ∙ ap ordering_reverse e) in
          let same : E (key x) k ≡ true = ties (key x) k ∙ ap is_eq e in
          rw (e, back, same) go
      by_order go Greater e =
          let back : is_lt (R k (key x)) ≡ true = ap is_lt (o.antisymm k (key x) ∙ ap ordering_reverse e) in
          let other : E (key x) k ≡ false = ties (key x) k ∙ ap is_eq e in
          rw (e, back, other) (IsPermutation-trans _ _ _ (IsPermutation-middle (before R key k xs) x
          (behind R key k xs)) (IsPermutation-cons x _ _ go))

  -- the item, and those of other keys
  pub put_parts : (x : X) (xs : List X) → IsPermutation (with_item R key xs x)
      (x ∷ filter (λ y. not (E (key y) (key x))) xs)
  put_parts x xs =
      rw (append_assoc (before R key (key x) xs) (x ∷ []) (behind R key (key x) xs))
      (IsPermutation-trans _ _ _ (IsPermutation-middle (before R key (key x) xs) x (behind R key (key x) xs))
      (IsPermutation-cons x _ _ (left_parts (key x) xs)))
