-- Lists that rise by a key and have the same items are one.
use Rattle.std.proofs.Common.{◌≡◌, true, IsTrue, IsPermutation, List, [], ◌∷◌, refl, sym, ap, ◌∙◌, subst}
use Rattle.std.proofs.Common.{inl, inr, get_or}
use Rattle.std.specs.Prelude.{Contains}
use Rattle.std.specs.declared.cmp.Ordering.{Ordering}
use Rattle.std.specs.declared.cmp.Ordering.TheVariants.{Less, Greater}
use Rattle.std.specs.Ordering.{is_lt, ordering_reverse}
use Rattle.std.specs.Cmp.{IsTotalOrder}
use Rattle.std.proofs.lemmas.List.Sorted.{IsPermutation-sym, Contains-permutation}
use Rattle.terms.proofs.ListMembers.{here, here_or, there, none_in}
use Rattle.terms.proofs.Orderings.{Less_from_is_lt}
use Rattle.terms.proofs.Pairs.{AllPairs_first, AllPairs_rest}
use Rattle.terms.specs.Rising.{Rises}

module _ {X K : Type 0} {R : K → K → Ordering} (o : IsTotalOrder R) (key : X → K) where
  not_both : (a b : X) → is_lt (R (key a) (key b)) ≡ true → is_lt (R (key b) (key a)) ≡ true → ⊥
  not_both a b low high =
      let one : R (key a) (key b) ≡ Less = Less_from_is_lt (R (key a) (key b)) low in
      let two : R (key b) (key a) ≡ Less = Less_from_is_lt (R (key b) (key a)) high in
      let back : Less ≡ Greater = sym one ∙ o.antisymm (key a) (key b) ∙ ap ordering_reverse two in
      cc (back)

  -- what comes behind the first
  behind_first : (a : X) (xs : List X) (z : X) → Rises R key (a ∷ xs) → Contains xs z
      → is_lt (R (key a) (key z)) ≡ true
  behind_first a xs z rises h = subst (λ t. is_lt (R (key a) (key t)) ≡ true) h.2
      (AllPairs_first (λ x y. IsTrue (is_lt (R (key x) (key y)))) a xs rises h.0 z h.1)

  rest : (a b : X) (xs ys : List X) (z : X) → a ≡ b → Rises R key (a ∷ xs) → Contains (b ∷ ys) z → Contains xs z
      → Contains ys z
  rest a b xs ys z same rises h later =
      elim (here_or b ys z h) [
        | inl is ↦
            let low : is_lt (R (key a) (key a)) ≡ true = subst (λ t. is_lt (R (key a) (key t)) ≡ true) (sym (same ∙ is))
            (behind_first a xs z rises later) in
            absurd (not_both a a low low)
        | inr more ↦ more
      ]

  pub rises_only : (xs ys : List X) → Rises R key xs → Rises R key ys → ((x : X) → Contains xs x → Contains ys x)
      → ((x : X) → Contains ys x → Contains xs x) → xs ≡ ys
  rises_only [] [] rises rises' up down = refl
  rises_only [] (b ∷ bs) rises rises' up down = absurd (none_in b (down b (here b bs)))
  rises_only (a ∷ as') [] rises rises' up down = absurd (none_in a (up a (here a as')))
  rises_only (a ∷ as') (b ∷ bs) rises rises' up down =
      let same : a ≡ b = elim (here_or b bs a (up a (here a as'))) [
        | inl is ↦ sym is
        | inr later ↦ elim (here_or a as' b (down b (here b bs))) [
          | inl is ↦ is
          | inr later' ↦ absurd (not_both b a (behind_first b bs a rises' later) (behind_first a as' b rises later'))
        ]
      ] in
      let more = rises_only as' bs (AllPairs_rest (λ x y. IsTrue (is_lt (R (key x) (key y)))) a as' rises)
      (AllPairs_rest (λ x y. IsTrue (is_lt (R (key x) (key y)))) b bs rises')
      (λ z h. rest a b as' bs z same rises (up z (there a as' z h)) h)
      (λ z h. rest b a bs as' z (sym same) rises' (down z (there b bs z h)) h) in
      cc (same, more)

  -- another order of one is the same
  pub rises_permuted : (xs ys : List X) → Rises R key xs → Rises R key ys → IsPermutation xs ys → xs ≡ ys
  rises_permuted xs ys rises rises' same = rises_only xs ys rises rises' (λ x. Contains-permutation xs ys x same)
      (λ x. Contains-permutation ys xs x (IsPermutation-sym xs ys same))

-- by an order that answers alike they rise too
pub rises_alike : {X K : Type 0} (R S : K → K → Ordering) → ((a b : K) → R a b ≡ S a b) → (key : X → K) (xs : List X)
    → Rises S key xs → Rises R key xs
rises_alike R S same key xs rises = λ i j d before below.
    subst (λ o. IsTrue (is_lt o)) (sym (same (key (get_or xs i d)) (key (get_or xs j d)))) (rises i j d before below)
