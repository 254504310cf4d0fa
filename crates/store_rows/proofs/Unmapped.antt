-- Items whose rows are those of others in another order are the others in another order.
use Rattle.std.proofs.Common.{◌≡◌, ℕ, List, [], ◌∷◌, map, get_or, set, IsPermutation, refl, sym, ap, ap₂, subst, ◌∙◌}
use Rattle.std.specs.List.{AllByRecursion, swap}
use Rattle.std.specs.List.Sorted.{apply_swaps, SwapsInRange}
use Rattle.std.proofs.lemmas.List.{length-map, map-set}
use Rattle.std.proofs.Math.ListN.{get_or-map}
use Rattle.std.proofs.lemmas.List.Sorted.{IsPermutation-sym}
use Rattle.sqlite_rules.proofs.ListLemmas.{all_has, all_from}
use Rattle.store_rows.proofs.RowLemmas.{has_permuted}

map_swap : {X Y : Type 0} (f : X → Y) (xs : List X) (i j : ℕ) → map f (swap xs i j) ≡ swap (map f xs) i j
map_swap f [] i j = refl
map_swap f (d ∷ xs) i j =
    map-set f (set (d ∷ xs) i (get_or (d ∷ xs) j d)) j (get_or (d ∷ xs) i d)
    ∙ ap₂ (λ ys y. set ys j y) (map-set f (d ∷ xs) i (get_or (d ∷ xs) j d)
    ∙ ap (set (map f (d ∷ xs)) i) (sym (get_or-map f (d ∷ xs) j d))) (sym (get_or-map f (d ∷ xs) i d))

map_swaps : {X Y : Type 0} (f : X → Y) (xs : List X) (ps : List (ℕ × ℕ))
    → map f (apply_swaps xs ps) ≡ apply_swaps (map f xs) ps
map_swaps f xs [] = refl
map_swaps f xs (p ∷ ps) = map_swap f (apply_swaps xs ps) p.0 p.1 ∙ ap (λ l. swap l p.0 p.1) (map_swaps f xs ps)

module _ {X Y : Type 0} (f : X → Y) (P : X → Type 0) (exact : (a b : X) → P a → P b → f a ≡ f b → a ≡ b) where
  same_items : (xs ys : List X) → AllByRecursion P xs → AllByRecursion P ys → map f xs ≡ map f ys → xs ≡ ys
  same_items [] [] p q e = refl
  same_items [] (y ∷ ys) p q e = absurd cc
  same_items (x ∷ xs) [] p q e = absurd cc
  same_items (x ∷ xs) (y ∷ ys) p q e =
      let first : f x ≡ f y = cc in
      let rest : map f xs ≡ map f ys = cc in
      ap₂ ◌∷◌ (exact x y p.0 q.0 first) (same_items xs ys p.1 q.1 rest)

  -- where items with this form have rows of their own
  pub unmapped_permutation : (xs ys : List X) → AllByRecursion P xs → AllByRecursion P ys
      → IsPermutation (map f xs) (map f ys) → IsPermutation xs ys
  unmapped_permutation xs ys p q h =
      let zs = apply_swaps xs h.moves in
      let below = subst (λ n. SwapsInRange n h.moves) (length-map xs f) h.below in
      let moved : IsPermutation xs zs = record { moves = h.moves; below = below; is = refl } in
      let forms : AllByRecursion P zs = all_from P zs (λ z there.
      all_has P xs z p (has_permuted zs xs z (IsPermutation-sym xs zs moved) there)) in
      record { moves = h.moves; below = below; is = same_items ys zs q forms (h.is ∙ sym (map_swaps f xs h.moves)) }
