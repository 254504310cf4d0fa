-- Sums over lists.
use Rattle.std.proofs.Common.{◌≡◌, ◌≤◌, ◌+◌, ℕ, Bool, true, false, List, [], ◌∷◌, refl}
use Rattle.std.proofs.Common.{arith, inl, inr}
use Rattle.std.specs.Prelude.{◌&&◌, not, IsTrue, count_by}
use Rattle.std.specs.List.{All, sum_by, slice_index_or}
use Rattle.std.proofs.lemmas.List.Sums.{sum_by-cons, sum_by-le}
use Rattle.std.proofs.lemmas.Bool.{cases_Bool}
use Rattle.solve.specs.Rows.{one_if}

-- equal terms, and terms that are sums
pub sum_by_same : {X : Type 0} (f g : X → ℕ) (xs : List X) → ((x : X) → f x ≡ g x) → sum_by f xs ≡ sum_by g xs
sum_by_same f g [] same = refl
sum_by_same f g (x ∷ xs) same = omega (arith, sum_by-cons f x xs, sum_by-cons g x xs, same x, sum_by_same f g xs same)

pub sum_by_split : {X : Type 0} (f g h : X → ℕ) (xs : List X) → ((x : X) → f x ≡ g x + h x)
    → sum_by f xs ≡ sum_by g xs + sum_by h xs
sum_by_split f g h [] same = refl
sum_by_split f g h (x ∷ xs) same = omega (
  arith,
  sum_by-cons f x xs,
  sum_by-cons g x xs,
  sum_by-cons h x xs,
  same x,
  sum_by_split f g h xs same,
)

-- the members of a set, and those of a part of it
pub count_part : (whole part : ℕ → Bool) (xs : List ℕ) → ((x : ℕ) → IsTrue (part x) → IsTrue (whole x))
    → count_by whole xs ≡ count_by (λ x. whole x && not (part x)) xs + count_by part xs
count_part whole part xs within = sum_by_split (λ x. one_if (whole x)) (λ x. one_if (whole x && not (part x)))
    (λ x. one_if (part x)) xs (λ x. elim (cases_Bool (part x)) [
      | inl inside ↦ yes_part (whole x) (part x) (within x inside) inside
      | inr outside ↦ no_part (whole x) (part x) outside
    ])
  where
    yes_part : (w b : Bool) → w ≡ true → b ≡ true → one_if w ≡ one_if (w && not b) + one_if b
    yes_part true true a h = refl
    yes_part true false a h = cc
    yes_part false b a h = cc

    no_part : (w b : Bool) → b ≡ false → one_if w ≡ one_if (w && not b) + one_if b
    no_part true true h = cc
    no_part true false h = refl
    no_part false true h = cc
    no_part false false h = refl

pub count_none : (test : ℕ → Bool) (xs : List ℕ) → All (λ x. test x ≡ false) xs → count_by test xs ≡ 0
count_none test xs none =
    let small = sum_by-le (λ x. one_if (test x)) 0 xs (λ k d below.
    zero_if (test (slice_index_or xs k d)) (none k d below)) in
    omega (arith, small)
  where
    zero_if : (b : Bool) → b ≡ false → one_if b ≤ 0
    zero_if true h = cc
    zero_if false h = omega arith
