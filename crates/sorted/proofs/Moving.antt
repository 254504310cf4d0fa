-- The front of a list that rises: what stands before a key, and what has it.
use Rattle.std.proofs.Common.{◌≡◌, ◌<◌, true, false, List, [], ◌∷◌, length, get_or, drop, refl, sym, ap, cond}
use Rattle.std.proofs.Common.{◌∙◌, arith}
use Rattle.std.specs.declared.cmp.Ordering.{Ordering}
use Rattle.std.specs.declared.cmp.Ordering.TheVariants.{Less, Equal, Greater}
use Rattle.std.specs.Ordering.{is_lt}
use Rattle.std.specs.Cmp.{IsTotalOrder}
use Rattle.std.proofs.lemmas.List.Elements.{All-cons}
use Rattle.std.proofs.lemmas.Bool.{false≢true}
use Rattle.terms.proofs.Orderings.{Less_from_is_lt}
use Rattle.terms.proofs.Pairs.{AllPairs_first}
use Rattle.terms.specs.Rising.{Rises, before, behind, Splits}
use Rattle.terms.proofs.RisingLists.{before_apart, behind_apart, before_around, behind_around, Splits_around}

pub starts : {X : Type 0} (xs : List X) (x : X) → 0 < length xs → x ≡ get_or xs 0 x → xs ≡ x ∷ drop 1 xs
starts [] x some at = absurd (omega arith)
starts (y ∷ xs) x some at = ap (λ z. z ∷ xs) (sym at)

module _ {X K : Type 0} {R : K → K → Ordering} (o : IsTotalOrder R) (key : X → K) where
  -- an item before the key goes over
  pub moved_before : (k : K) (x : X) (xs : List X) → is_lt (R (key x) k) ≡ true
      → before R key k (x ∷ xs) ≡ x ∷ before R key k xs
  moved_before k x xs low = ap (λ b. cond b (x ∷ before R key k xs) (before R key k xs)) low

  pub kept_behind : (k : K) (x : X) (xs : List X) → is_lt (R (key x) k) ≡ true
      → behind R key k (x ∷ xs) ≡ behind R key k xs
  kept_behind k x xs low =
      let apart : is_lt (R k (key x)) ≡ false = rw (o.antisymm k (key x), Less_from_is_lt (R (key x) k) low) refl in
      ap (λ b. cond b (x ∷ behind R key k xs) (behind R key k xs)) apart

  -- all stand behind a key before the first one's
  splits_first : (k : K) (x : X) (xs : List X) → Rises R key (x ∷ xs) → R k (key x) ≡ Less
      → Splits R key k [] (x ∷ xs)
  splits_first k x xs rises up =
      let later = AllPairs_first (λ a b. is_lt (R (key a) (key b)) ≡ true) x xs rises in
      record {
        low = λ i d h. absurd (omega arith);
        high = All-cons (λ y. R k (key y) ≡ Less) x xs up
            (λ i d h. o.trans k (key x) (key (get_or xs i d)) up
            (Less_from_is_lt (R (key x) (key (get_or xs i d))) (later i d h)));
      }

  -- the first one does not stand before the key
  pub none_before : (k : K) (x : X) (xs : List X) → Rises R key (x ∷ xs) → is_lt (R (key x) k) ≡ false
      → before R key k (x ∷ xs) ≡ []
  none_before k x xs rises apart = by (R (key x) k) refl
    where
      by : (r : Ordering) → R (key x) k ≡ r → before R key k (x ∷ xs) ≡ []
      by Less e = absurd (false≢true (sym apart ∙ ap is_lt e))
      by Equal e = before_around o key k [] xs x (Splits_around o key k [] xs x rises e) e
      by Greater e = before_apart o key k [] (x ∷ xs) (splits_first k x xs rises (rw (o.antisymm k (key x), e) refl))

  pub behind_tied : (k : K) (x : X) (xs : List X) → Rises R key (x ∷ xs) → R (key x) k ≡ Equal
      → behind R key k (x ∷ xs) ≡ xs
  behind_tied k x xs rises e = behind_around o key k [] xs x (Splits_around o key k [] xs x rises e) e

  pub behind_all : (k : K) (x : X) (xs : List X) → Rises R key (x ∷ xs) → before R key k (x ∷ xs) ≡ []
      → (R (key x) k ≡ Equal → ⊥) → behind R key k (x ∷ xs) ≡ x ∷ xs
  behind_all k x xs rises none apart = by (R (key x) k) refl
    where
      by : (r : Ordering) → R (key x) k ≡ r → behind R key k (x ∷ xs) ≡ x ∷ xs
      by Less e =
          let front : x ∷ before R key k xs ≡ [] = sym (moved_before k x xs (ap is_lt e)) ∙ none in
          let count = ap length front in
          absurd (omega (arith, count))
      by Equal e = absurd (apart e)
      by Greater e = behind_apart o key k [] (x ∷ xs) (splits_first k x xs rises (rw (o.antisymm k (key x), e) refl))
