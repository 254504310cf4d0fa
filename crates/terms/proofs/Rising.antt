-- Lists of numbers that rise strictly.
use Rattle.std.proofs.Common.{◌≡◌, ◌<◌, ◌≤◌, ◌+◌, ◌-◌, ℕ, zero, suc, List, [], ◌∷◌, length, take, get_or, sym, subst}
use Rattle.std.proofs.Common.{arith, inl, inr}
use Rattle.std.specs.List.{All, AllPairs}
use Rattle.std.proofs.lemmas.List.{get_or-take, take_more, length-take-le, get_or_default}
use Rattle.std.proofs.lemmas.List.Quantifiers.{all_pairs_push}
use Rattle.std.proofs.lemmas.Bool.{cases_eq}

abbrev pub Rises : List ℕ → Type 0
Rises xs = AllPairs (λ a b. a < b) xs

-- no number has room before it
pub rises_one : (xs : List ℕ) → Rises (take 1 xs)
rises_one [] i j d before below = absurd (omega (arith, below))
rises_one (x ∷ xs) i j d before below = absurd (omega (arith, before, below))

-- one more number, above the one before it
pub rises_more : (xs : List ℕ) (i : ℕ) → 0 < i → i < length xs → get_or xs (i - 1) 0 < get_or xs i 0 → Rises (take i xs)
    → Rises (take (i + 1) xs)
rises_more xs i some below higher rises =
    subst Rises (sym (take_more xs i 0 below))
    (all_pairs_push (λ a b. a < b) (take i xs) (get_or xs i 0) rises (λ k d in_front.
    let short : length (take i xs) ≡ i = length-take-le i xs (omega arith) in
    let last : get_or (take i xs) (i - 1) d ≡ get_or xs (i - 1) d = get_or-take i xs (i - 1) d (omega arith) in
    let same : get_or xs (i - 1) d ≡ get_or xs (i - 1) 0 = get_or_default xs (i - 1) d 0 (omega arith) in
    elim (cases_eq k (i - 1)) [
      | inl here ↦ subst (λ n. get_or (take i xs) n d < get_or xs i 0) (sym here) (omega (arith, last, same, higher))
      | inr before ↦ omega (arith, rises k (i - 1) d (omega arith) (omega arith), last, same, higher)
    ]))

-- a number is no less than how many stand before it
place_le : (xs : List ℕ) → Rises xs → (k : ℕ) → k < length xs → k ≤ get_or xs k 0
place_le xs rises zero below = omega arith
place_le xs rises (suc k) below = omega (
  arith,
  place_le xs rises k (omega (arith, below)),
  rises k (suc k) 0 (omega arith) below,
)

-- numbers below n that rise are at most n
pub rising_length : (xs : List ℕ) (n : ℕ) → Rises xs → All (λ y. y < n) xs → length xs ≤ n
rising_length [] n rises small = omega arith
rising_length (x ∷ xs) n rises small =
    let last : length xs < length (x ∷ xs) = omega arith in
    omega (arith, place_le (x ∷ xs) rises (length xs) last, small (length xs) 0 last)
