-- What stands at a key after items were put into a list one after the other.
use Rattle.std.proofs.Common.{◌≡◌, ◌⊎◌, inl, inr, Bool, true, false, List, [], ◌∷◌, refl, sym, ap, ◌∙◌, subst, cond}
use Rattle.std.proofs.Common.{true≢false}
use Rattle.std.specs.Prelude.{Contains, find, fold, Some}
use Rattle.std.specs.declared.cmp.Ordering.{Ordering}
use Rattle.std.specs.Ordering.{is_eq}
use Rattle.std.specs.Cmp.{IsTotalOrder}
use Rattle.terms.proofs.Orderings.{Equal_from_is_eq}
use Rattle.sorted.specs.declared.edits.Edit.TheVariants.{Put}
use Rattle.terms.specs.Rising.{Rises, with_item}
use Rattle.terms.proofs.RisingLists.{find_there, Splits_around}
use Rattle.sorted.proofs.Editing.{find_after_edit}
use Rattle.terms.proofs.ListMembers.{here, there, here_or, none_in, parts}

module _ {X K : Type 0} {R : K → K → Ordering} (o : IsTotalOrder R) (key : X → K) (E : K → K → Bool)
    (ties : (a b : K) → E a b ≡ is_eq (R a b)) where
  -- an item of a list that rises is found by its key
  pub find_member : (xs : List X) (x : X) (k : K) → Rises R key xs → Contains xs x → E (key x) k ≡ true
      → find (λ y. E (key y) k) xs ≡ Some x
  find_member xs x k rises h hit =
      let p = parts xs x h in
      let tie = Equal_from_is_eq (R (key x) k) (sym (ties (key x) k) ∙ hit) in
      ap (find (λ y. E (key y) k)) p.2
      ∙ find_there o key E ties k p.0 p.1 x (Splits_around o key k p.0 p.1 x (subst (Rises R key) p.2 rises) tie) tie

  pub find_with_item : (xs : List X) (x : X) (k : K)
      → find (λ y. E (key y) k) (with_item R key xs x) ≡ cond (E (key x) k) (Some x) (find (λ y. E (key y) k) xs)
  find_with_item xs x k = find_after_edit o key E ties xs (Put x) k

  -- a key that none of them has
  pub in_turn_none : (items xs : List X) (k : K) → ((y : X) → Contains items y → E (key y) k ≡ false)
      → find (λ y. E (key y) k) (fold (with_item R key) xs items) ≡ find (λ y. E (key y) k) xs
  in_turn_none [] xs k none = refl
  in_turn_none (y ∷ ys) xs k none =
      in_turn_none ys (with_item R key xs y) k (λ z h. none z (there y ys z h))
      ∙ find_with_item xs y k ∙ ap (λ b. cond b (Some y) (find (λ y. E (key y) k) xs)) (none y (here y ys))

  -- a key that one item alone has
  pub in_turn_some : (items xs : List X) (k : K) (x : X) → E (key x) k ≡ true
      → ((y : X) → Contains items y → E (key y) k ≡ true → y ≡ x)
      → (find (λ y. E (key y) k) xs ≡ Some x) ⊎ Contains items x
      → find (λ y. E (key y) k) (fold (with_item R key) xs items) ≡ Some x
  in_turn_some [] xs k x hit only (inl at) = at
  in_turn_some [] xs k x hit only (inr h) = absurd (none_in x h)
  in_turn_some (y ∷ ys) xs k x hit only standing = by (in_turn_some ys (with_item R key xs y) k x hit
      (λ z h. only z (there y ys z h))) standing (E (key y) k) refl
    where
      by : ((find (λ z. E (key z) k) (with_item R key xs y) ≡ Some x) ⊎ Contains ys x
          → find (λ z. E (key z) k) (fold (with_item R key) (with_item R key xs y) ys) ≡ Some x)
          → (find (λ z. E (key z) k) xs ≡ Some x) ⊎ Contains (y ∷ ys) x → (b : Bool) → E (key y) k ≡ b
          → find (λ z. E (key z) k) (fold (with_item R key) (with_item R key xs y) ys) ≡ Some x
      by rest standing true e =
          rest (inl (find_with_item xs y k ∙ ap (λ b. cond b (Some y) (find (λ z. E (key z) k) xs)) e
          ∙ ap (λ v. Some v) (only y (here y ys) e)))
      by rest (inl at) false e = rest (inl (find_with_item xs y k
          ∙ ap (λ b. cond b (Some y) (find (λ z. E (key z) k) xs)) e ∙ at))
      by rest (inr h) false e =
          elim (here_or y ys x h) [
            | inl same ↦ absurd (true≢false (sym hit ∙ ap (λ v. E (key v) k) (sym same) ∙ e))
            | inr later ↦ rest (inr later)
          ]
