-- What an order says of two things, and the laws of a total order.
use Rattle.std.proofs.Common.{◌≡◌, true, refl, ◌&&◌, false, ap, List, ◌∙◌}
use Rattle.std.specs.Cmp.{IsTotalOrder}
use Rattle.std.specs.List.{AllByRecursion}
use Rattle.std.specs.Ordering.{is_lt, is_le, is_eq, nat_cmp, ordering_then, ordering_reverse}
use Rattle.std.specs.declared.cmp.Ordering.{Ordering}
use Rattle.std.specs.declared.cmp.Ordering.TheVariants.{Less, Equal, Greater}
use Rattle.terms.proofs.Each.{recursion_weaker}
use Rattle.std.proofs.Common.{not, ℕ, IsTrue, ◌==◌, inl, inr, eq-eqb, arith, sym, subst, true≢false}
use Rattle.std.specs.Prelude.{◌||◌, nat_lt}
use Rattle.std.specs.Cmp.{nat_cmp_is}
use Rattle.std.proofs.lemmas.Bool.{cases_lt, lt-ltb, or_right, and_from}

pub Less_from_is_lt : (r : Ordering) → is_lt r ≡ true → r ≡ Less
Less_from_is_lt Less e = refl
Less_from_is_lt Equal e = cc
Less_from_is_lt Greater e = cc

pub Equal_from_is_eq : (r : Ordering) → is_eq r ≡ true → r ≡ Equal
Equal_from_is_eq Less e = cc
Equal_from_is_eq Equal e = refl
Equal_from_is_eq Greater e = cc

-- what is between two ends of one first part
pub between_then : (i a b : Ordering) → (is_le (ordering_then i a) && not (is_le (ordering_then i b)))
    ≡ (is_eq i && (is_le a && not (is_le b)))
between_then Less a b = refl
between_then Equal a b = refl
between_then Greater a b = refl

pub is_eq_then : (r s : Ordering) → is_eq (ordering_then r s) ≡ (is_eq r && is_eq s)
is_eq_then Less s = refl
is_eq_then Equal s = refl
is_eq_then Greater s = refl

-- lower by a number first, as a test
pub lower_first : (m n : ℕ) (r : Ordering) → IsTrue (is_lt (ordering_then (nat_cmp m n) r))
    → IsTrue (nat_lt m n || ((m == n) && is_lt r))
lower_first m n r lower = elim (cases_lt m n) [
  | inl less ↦ ap (λ b. b || ((m == n) && is_lt r)) (lt-ltb m n less)
  | inr more ↦ elim (cases_lt n m) [
    | inl greater ↦ absurd (true≢false (sym (subst (λ o. IsTrue (is_lt (ordering_then o r)))
        (sym (nat_cmp_is m n Greater greater)) lower)))
    | inr least ↦ or_right (nat_lt m n) ((m == n) && is_lt r)
        (and_from (m == n) (is_lt r) (eq-eqb m n (omega (arith, more, least)))
        (subst (λ o. IsTrue (is_lt (ordering_then o r))) (sym (nat_cmp_is m n Equal (omega (arith, more, least))))
        lower))
  ]
]

-- what is neither above nor as high is below
pub is_lt_from_turned : (r s : Ordering) → r ≡ ordering_reverse s → is_lt s ≡ false → (r ≡ Equal → ⊥) → is_lt r ≡ true
is_lt_from_turned r Less e low apart = absurd cc
is_lt_from_turned r Equal e low apart = absurd (apart e)
is_lt_from_turned r Greater e low apart = ap is_lt e

module _ {K : Type 0} {R : K → K → Ordering} (o : IsTotalOrder R) where
  pub Greater_turned : (a b : K) → R a b ≡ Less → R b a ≡ Greater
  Greater_turned a b less = o.antisymm b a ∙ ap ordering_reverse less

  pub Less_turned : (a b : K) → R a b ≡ Greater → R b a ≡ Less
  Less_turned a b greater = o.antisymm b a ∙ ap ordering_reverse greater

  -- keys above a key are above each lower one, and above each that is as high
  pub above_lower : (k q : K) (ks : List K) → R k q ≡ Less → AllByRecursion (λ p. R q p ≡ Less) ks
      → AllByRecursion (λ p. R k p ≡ Less) ks
  above_lower k q ks less all = recursion_weaker (λ p. R q p ≡ Less) (λ p. R k p ≡ Less)
      (λ p next. o.trans k q p less next) ks all

  pub above_same : (k q : K) (ks : List K) → R k q ≡ Equal → AllByRecursion (λ p. R q p ≡ Less) ks
      → AllByRecursion (λ p. R k p ≡ Less) ks
  above_same k q ks same all = recursion_weaker (λ p. R q p ≡ Less) (λ p. R k p ≡ Less)
      (λ p next. o.congr k q p same ∙ next) ks all
