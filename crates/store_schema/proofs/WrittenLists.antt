-- Lists in order that have the same members, and lists that are put together of parts.
use Rattle.std.proofs.Common.{◌≡◌, ◌≢◌, inl, inr, ℕ, suc, ◌+◌, ◌<◌, ◌≤◌, List, [], ◌∷◌, ◌++◌, map, length}
use Rattle.std.proofs.Common.{length-append, All, AllPairs, IsTrue, IsPermutation, false, true≢false, arith, refl, sym}
use Rattle.std.proofs.Common.{ap, ap₂, subst, ◌∙◌}
use Rattle.std.specs.List.{AllByRecursion, flat_map, enumerate_from, concat, join_with_byte}
use Rattle.std.specs.declared.cmp.Ordering.{Ordering}
use Rattle.std.specs.Ordering.{is_lt}
use Rattle.std.specs.Cmp.{IsTotalOrder}
use Rattle.std.proofs.lemmas.List.Sorted.{IsPermutation-sym}
use Rattle.terms.proofs.Each.{recursion_unmap}
use Rattle.sqlite.specs.Tree.{IsAscending}
use Rattle.sqlite_rules.specs.Lists.{Has}
use Rattle.sqlite_rules.proofs.ListLemmas.{all_has, all_from, has_left, has_right, has_either, contains_had}
use Rattle.store_rows.proofs.RowLemmas.{has_permuted}
use Rattle.terms.specs.Rising.{Rises}
use Rattle.terms.proofs.Orderings.{Less_from_is_lt}

-- ---- in order

module _ {X : Type 0} (R : X → X → Type 0) (apart : (x y : X) → R x y → ¬ R y x) where
  first_same : (x y : X) (xs ys : List X) → AllByRecursion (R x) xs → AllByRecursion (R y) ys → Has (y ∷ ys) x
      → Has (x ∷ xs) y → x ≡ y
  first_same x y xs ys p q (inl e) h = e
  first_same x y xs ys p q (inr k) (inl e) = sym e
  first_same x y xs ys p q (inr k) (inr h) = absurd (apart x y (all_has (R x) xs y p h) (all_has (R y) ys x q k))

  later : (x y z : X) (xs ys : List X) → AllByRecursion (R x) xs → x ≡ y → Has xs z → Has (y ∷ ys) z → Has ys z
  later x y z xs ys p same h (inr k) = k
  later x y z xs ys p same h (inl e) =
      let r : R x x = subst (R x) (e ∙ sym same) (all_has (R x) xs z p h) in
      absurd (apart x x r r)

  -- lists that rise and have the same members are one
  pub same_sorted : (xs ys : List X) → IsAscending R xs → IsAscending R ys → ((x : X) → Has xs x → Has ys x)
      → ((y : X) → Has ys y → Has xs y) → xs ≡ ys
  same_sorted [] [] p q to from = refl
  same_sorted [] (y ∷ ys) p q to from = absurd (from y (inl refl))
  same_sorted (x ∷ xs) [] p q to from = absurd (to x (inl refl))
  same_sorted (x ∷ xs) (y ∷ ys) p q to from =
      let head : x ≡ y = first_same x y xs ys p.0 q.0 (to x (inl refl)) (from y (inl refl)) in
      ap₂ ◌∷◌ head (same_sorted xs ys p.1 q.1 (λ z h. later x y z xs ys p.0 head h (to z (inr h)))
      (λ z h. later y x z ys xs q.0 (sym head) h (from z (inr h))))

  -- what stands in the same place of the order is one
  pub one_place : (xs : List X) (a b : X) → IsAscending R xs → Has xs a → Has xs b → ¬ R a b → ¬ R b a → a ≡ b
  one_place [] a b p h k left right = absurd h
  one_place (x ∷ xs) a b p (inl e) (inl f) left right = e ∙ sym f
  one_place (x ∷ xs) a b p (inl e) (inr k) left right = absurd
      (left (subst (λ c. R c b) (sym e) (all_has (R x) xs b p.0 k)))
  one_place (x ∷ xs) a b p (inr h) (inl f) left right = absurd
      (right (subst (λ c. R c a) (sym f) (all_has (R x) xs a p.0 h)))
  one_place (x ∷ xs) a b p (inr h) (inr k) left right = one_place xs a b p.1 h k left right

pub has_all : {X : Type 0} (P : X → Type 0) (xs : List X) (x : X) → All P xs → Has xs x → P x
has_all P xs x all h = let at = contains_had xs x h in subst P at.2 (all at.0 x at.1)

pub all_by : {X : Type 0} (P : X → Type 0) (xs : List X) → All P xs → AllByRecursion P xs
all_by P xs all = all_from P xs (λ x h. has_all P xs x all h)

pub ascending : {X : Type 0} (R : X → X → Type 0) (xs : List X) → AllPairs R xs → IsAscending R xs
ascending R [] h = tt
ascending R (x ∷ xs) h = (
  all_from (R x) xs (λ y k. let at = contains_had xs y k in subst (R x) at.2
      (h 0 (suc at.0) y (omega arith) (omega (arith, at.1)))),
  ascending R xs (λ i j d less within. h (suc i) (suc j) d (omega arith) (omega arith)),
)

pub ascending_by : {X Y : Type 0} (f : X → Y) (R : Y → Y → Type 0) (xs : List X) → IsAscending R (map f xs)
    → IsAscending (λ a b. R (f a) (f b)) xs
ascending_by f R [] h = tt
ascending_by f R (x ∷ xs) h = (recursion_unmap f (R (f x)) xs h.0, ascending_by f R xs h.1)

-- what stands before another does not stand behind it
pub lower_once : {K : Type 0} {R : K → K → Ordering} → IsTotalOrder R → (a b : K) → IsTrue (is_lt (R a b))
    → ¬ IsTrue (is_lt (R b a))
lower_once {R} o a b low high =
    let not_high : is_lt (R b a) ≡ false = rw (o.antisymm b a, Less_from_is_lt (R a b) low) refl in
    true≢false (sym high ∙ not_high)

-- lists that rise by a key are one where they have the same items
pub rising_same : {X K : Type 0} {R : K → K → Ordering} → IsTotalOrder R → (key : X → K) (xs ys : List X)
    → IsPermutation xs ys → Rises R key xs → Rises R key ys → xs ≡ ys
rising_same {R = R} o key xs ys same p q =
    same_sorted (λ a b. IsTrue (is_lt (R (key a) (key b)))) (λ a b. lower_once o (key a) (key b)) xs ys
    (ascending _ xs p) (ascending _ ys q)
    (λ x. has_permuted xs ys x same) (λ y. has_permuted ys xs y (IsPermutation-sym xs ys same))

-- ---- of parts

pub flat_has : {X Y : Type 0} (f : X → List Y) (xs : List X) (x : X) (y : Y) → Has xs x → Has (f x) y
    → Has (flat_map f xs) y
flat_has f [] x y h k = absurd h
flat_has f (z ∷ xs) x y (inl e) k = has_left (f z) (flat_map f xs) y (subst (λ w. Has (f w) y) e k)
flat_has f (z ∷ xs) x y (inr h) k = has_right (f z) (flat_map f xs) y (flat_has f xs x y h k)

pub flat_had : {X Y : Type 0} (f : X → List Y) (xs : List X) (y : Y) → Has (flat_map f xs) y
    → (x : X) × Has xs x × Has (f x) y
flat_had f [] y h = absurd h
flat_had f (z ∷ xs) y h = elim (has_either (f z) (flat_map f xs) y h) [
  | inl here ↦ (z, inl refl, here)
  | inr there ↦ let it = flat_had f xs y there in (it.0, inr it.1, it.2)
]

from_number : {X : Type 0} (n m : ℕ) (xs : List X) → m ≤ n → AllByRecursion (λ (p : ℕ × X). m ≤ p.0)
    (enumerate_from n xs)
from_number n m [] h = tt
from_number n m (x ∷ xs) h = (h, from_number (n + 1) m xs (omega arith))

abbrev pub IsLower : {X : Type 0} → ℕ × X → ℕ × X → Type 0
IsLower a b = a.0 < b.0

pub numbers_rise : {X : Type 0} (n : ℕ) (xs : List X) → IsAscending IsLower (enumerate_from n xs)
numbers_rise n [] = tt
numbers_rise n (x ∷ xs) = (
  all_from _ _ (λ p h. let low = all_has _ (enumerate_from (n + 1) xs) p
      (from_number (n + 1) (n + 1) xs (omega arith)) h in omega arith),
  numbers_rise (n + 1) xs,
)

pub values : {X : Type 0} (n : ℕ) (xs : List X) → map (λ (p : ℕ × X). p.1) (enumerate_from n xs) ≡ xs
values n [] = refl
values n (x ∷ xs) = ap (λ ys. x ∷ ys) (values (n + 1) xs)

-- ---- spelled out

-- a text that is not empty and has no comma
abbrev pub IsWord : List ℕ → Type 0
IsWord t = (t ≢ []) × AllByRecursion (λ b. b ≢ 44) t

cut_same : (x y u v : List ℕ) → AllByRecursion (λ b. b ≢ 44) x → AllByRecursion (λ b. b ≢ 44) y
    → x ++ 44 ∷ u ≡ y ++ 44 ∷ v → (x ≡ y) × (u ≡ v)
cut_same [] [] u v p q e = (refl, cc)
cut_same [] (b ∷ y) u v p q e = absurd (q.0 cc)
cut_same (a ∷ x) [] u v p q e = absurd (p.0 cc)
cut_same (a ∷ x) (b ∷ y) u v p q e =
    let rest : x ++ 44 ∷ u ≡ y ++ 44 ∷ v = cc in
    let it = cut_same x y u v p.1 q.1 rest in
    (ap₂ ◌∷◌ (cc) it.0, it.1)

uncut : (x y v : List ℕ) → AllByRecursion (λ b. b ≢ 44) x → x ≢ y ++ 44 ∷ v
uncut [] [] v p e = absurd cc
uncut [] (b ∷ y) v p e = absurd cc
uncut (a ∷ x) [] v p e = p.0 cc
uncut (a ∷ x) (b ∷ y) v p e = uncut x y v p.1 cc

empty_first : (y v : List ℕ) → [] ≢ y ++ 44 ∷ v
empty_first [] v e = absurd cc
empty_first (b ∷ y) v e = absurd cc

-- such texts with commas between them spell one list
pub joined_same : (xs ys : List (List ℕ)) → AllByRecursion IsWord xs → AllByRecursion IsWord ys
    → join_with_byte 44 xs ≡ join_with_byte 44 ys → xs ≡ ys
joined_same [] [] p q e = refl
joined_same [] (y ∷ []) p q e = absurd (q.0.0 (sym e))
joined_same [] (y ∷ z ∷ ys) p q e = absurd (empty_first y _ e)
joined_same (x ∷ []) [] p q e = absurd (p.0.0 e)
joined_same (x ∷ a ∷ xs) [] p q e = absurd (empty_first x _ (sym e))
joined_same (x ∷ []) (y ∷ []) p q e = ap (λ z. z ∷ []) e
joined_same (x ∷ []) (y ∷ z ∷ ys) p q e = absurd (uncut x y _ p.0.1 e)
joined_same (x ∷ a ∷ xs) (y ∷ []) p q e = absurd (uncut y x _ q.0.1 (sym e))
joined_same (x ∷ a ∷ xs) (y ∷ b ∷ ys) p q e =
    let it = cut_same x y _ _ p.0.1 q.0.1 e in
    ap₂ ◌∷◌ it.0 (joined_same (a ∷ xs) (b ∷ ys) p.1 q.1 it.1)

split_same : (x y u v : List ℕ) → length x ≡ length y → x ++ u ≡ y ++ v → (x ≡ y) × (u ≡ v)
split_same [] [] u v len e = (refl, e)
split_same [] (b ∷ y) u v len e = absurd (omega arith)
split_same (a ∷ x) [] u v len e = absurd (omega arith)
split_same (a ∷ x) (b ∷ y) u v len e =
    let rest : x ++ u ≡ y ++ v = cc in
    let it = split_same x y u v (omega arith) rest in
    (ap₂ ◌∷◌ (cc) it.0, it.1)

-- records of one length, one after the other, spell one list
pub records_same : (xs ys : List (List ℕ)) → AllByRecursion (λ l. length l ≡ 80) xs
    → AllByRecursion (λ l. length l ≡ 80) ys → concat xs ≡ concat ys → xs ≡ ys
records_same [] [] p q e = refl
records_same [] (y ∷ ys) p q e = absurd (omega (arith, ap length e, length-append y (concat ys), q.0))
records_same (x ∷ xs) [] p q e = absurd (omega (arith, ap length e, length-append x (concat xs), p.0))
records_same (x ∷ xs) (y ∷ ys) p q e =
    let it = split_same x y (concat xs) (concat ys) (p.0 ∙ sym q.0) e in
    ap₂ ◌∷◌ it.0 (records_same xs ys p.1 q.1 it.1)
