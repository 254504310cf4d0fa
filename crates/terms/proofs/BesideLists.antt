-- Lists that grow by one, beside lists that a loop goes over.
use Rattle.std.proofs.Common.{◌≡◌, inl, inr, ℕ, zero, suc, ◌<◌, ◌≤◌, ◌+◌, List, [], ◌∷◌, ◌++◌, length}
use Rattle.std.proofs.Common.{length-append, Some, refl, sym, ap, ◌∙◌, subst, arith, slice_get}
use Rattle.std.specs.Prelude.{All, get_or, take}
use Rattle.std.proofs.lemmas.List.{take_more, take_all, length-take-le}
use Rattle.std.proofs.lemmas.List.Elements.{All-push}
use Rattle.std.proofs.lemmas.Option.{slice_get_within, get_or_from_slice_get}
use Rattle.terms.proofs.Places.{push_cases, at_place}
use Rattle.terms.specs.Beside.{Beside}

-- one more at the end of a list
pub push_old : {X : Type 0} (xs : List X) (y : X) (i : ℕ) (x : X) → slice_get xs i ≡ Some x
    → slice_get (xs ++ y ∷ []) i ≡ Some x
push_old [] y i x e = absurd (cc e)
push_old (z ∷ zs) y zero x e = e
push_old (z ∷ zs) y (suc i) x e = push_old zs y i x e

pub push_last : {X : Type 0} (xs : List X) (y : X) → slice_get (xs ++ y ∷ []) (length xs) ≡ Some y
push_last [] y = refl
push_last (z ∷ zs) y = push_last zs y

pub beside_more : {X Y : Type 0} (R : ℕ → X → Y → Type 0) (xs : List X) (ys : List Y) (x : X) (y : Y) → Beside R xs ys
    → R (length xs) x y → Beside R (xs ++ x ∷ []) (ys ++ y ∷ [])
beside_more R xs ys x y b r = record {
  lengths = length-append ys (y ∷ []) ∙ ap (λ n. n + 1) b.lengths ∙ sym (length-append xs (x ∷ []));
  each = λ n v w e f. elim (push_cases xs x n v e) [
    | inl old ↦ elim (push_cases ys y n w f) [
      | inl old_y ↦ b.each n v w old old_y
      | inr last ↦ absurd (omega (arith, slice_get_within xs n v old, last.0, b.lengths))
    ]
    | inr last_x ↦ elim (push_cases ys y n w f) [
      | inl old_y ↦ absurd (omega (arith, slice_get_within ys n w old_y, last_x.0, b.lengths))
      | inr last ↦ subst (λ k. R k v w) (sym last_x.0) (subst (λ k. R (length xs) k w) last_x.1
          (subst (R (length xs) x) last.1 r))
    ]
  ];
}

-- what stands beside an item
pub beside_there : {X Y : Type 0} (xs : List X) (ys : List Y) → length ys ≡ length xs → (n : ℕ) (x : X)
    → slice_get xs n ≡ Some x → (y : Y) × (slice_get ys n ≡ Some y)
beside_there xs ys same n x at = at_place ys n (subst (λ k. n < k) (sym same) (slice_get_within xs n x at))

-- the next of a list, as a loop goes over it
pub beside_next : {X Y : Type 0} (R : ℕ → X → Y → Type 0) (xs : List X) (ys new : List Y) (i : ℕ) (x : X) (y : Y)
    → i < length xs → x ≡ get_or xs i x
    → new ≡ ys ++ y ∷ [] → R i x y → Beside R (take i xs) ys → Beside R (take (i + 1) xs) new
beside_next R xs ys new i x y below at made r b =
    let len : length (take i xs) ≡ i = length-take-le i xs (omega (arith, below)) in
    subst (Beside R (take (i + 1) xs)) (sym made)
    (subst (λ l. Beside R l (ys ++ y ∷ [])) (sym (take_more xs i x below ∙ ap (λ v. take i xs ++ v ∷ []) (sym at)))
    (beside_more R (take i xs) ys x y b (subst (λ k. R k x y) (sym len) r)))

-- what all in front of a place have, and the one there has too
pub all_next : {X : Type 0} (P : X → Type 0) (xs : List X) (i : ℕ) (x : X) → i < length xs → x ≡ get_or xs i x → P x
    → All P (take i xs) → All P (take (i + 1) xs)
all_next P xs i x below at p all =
    subst (All P) (sym (take_more xs i x below ∙ ap (λ v. take i xs ++ v ∷ []) (sym at)))
    (All-push P (take i xs) x all p)

pub beside_at : {X Y : Type 0} (R : ℕ → X → Y → Type 0) (xs : List X) (ys new : List Y) (i : ℕ) (x : X) (y : Y)
    → slice_get xs i ≡ Some x
    → new ≡ ys ++ y ∷ [] → R i x y → Beside R (take i xs) ys → Beside R (take (i + 1) xs) new
beside_at R xs ys new i x y at = beside_next R xs ys new i x y (slice_get_within xs i x at)
    (sym (get_or_from_slice_get xs i x x at))

pub beside_through : {X Y : Type 0} (R : ℕ → X → Y → Type 0) (xs : List X) (ys : List Y) (i : ℕ) → length xs ≤ i
    → Beside R (take i xs) ys → Beside R xs ys
beside_through R xs ys i whole b = subst (λ l. Beside R l ys) (take_all i xs whole) b

-- all have been gone through
pub all_through : {X : Type 0} (P : X → Type 0) (xs : List X) (i : ℕ) → length xs ≤ i → All P (take i xs) → All P xs
all_through P xs i whole all = subst (All P) (take_all i xs whole) all
