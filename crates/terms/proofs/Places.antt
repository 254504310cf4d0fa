-- What stands at a place of a list.
use Rattle.std.proofs.Common.{◌∙◌, ◌⊎◌, ◌<◌, ◌++◌, ap, subst, refl, inl, inr, zero, suc, [], ◌∷◌, length, arith}
use Rattle.std.specs.Prelude.{◌≡◌, ℕ, List, Some, Contains, slice_get, Any, All}
use Rattle.std.proofs.lemmas.Option.{slice_get_within, get_or_from_slice_get, slice_get-get_or}

pub contains_at : {X : Type 0} (xs : List X) (i : ℕ) (x : X) → slice_get xs i ≡ Some x → Contains xs x
contains_at xs i x e = (i, slice_get_within xs i x e, get_or_from_slice_get xs i x x e)

pub found_at : {X : Type 0} (xs : List X) (x : X) → Contains xs x → (i : ℕ) × (slice_get xs i ≡ Some x)
found_at xs x h = (h.0, slice_get-get_or xs h.0 x h.1 ∙ ap (λ v. Some v) h.2)

pub any_at : {X : Type 0} (P : X → Type 0) (xs : List X) (i : ℕ) (x : X) → slice_get xs i ≡ Some x → P x → Any P xs
any_at P xs i x e h = (i, x, slice_get_within xs i x e, get_or_from_slice_get xs i x x e, h)

pub any_found : {X : Type 0} (P : X → Type 0) (xs : List X) → Any P xs
    → (i : ℕ) × (x : X) × (slice_get xs i ≡ Some x) × P x
any_found P xs a = (a.0, a.1, slice_get-get_or xs a.0 a.1 a.2 ∙ ap (λ v. Some v) a.3, a.4)

-- what holds of all elements holds of the one that is found
pub All-found : {X : Type 0} (P : X → Type 0) (xs : List X) (i : ℕ) (x : X) → All P xs → slice_get xs i ≡ Some x → P x
All-found P xs i x all e = subst P (get_or_from_slice_get xs i x x e) (all i x (slice_get_within xs i x e))

-- what stands at a place of a list as long as another
pub at_place : {X : Type 0} (xs : List X) (n : ℕ) → n < length xs → (x : X) × (slice_get xs n ≡ Some x)
at_place [] n below = absurd (omega (arith, below))
at_place (x ∷ xs) zero below = (x, refl)
at_place (x ∷ xs) (suc n) below = at_place xs n (omega (arith, below))

-- a place of a list with one more
pub push_cases : {X : Type 0} (xs : List X) (y : X) (i : ℕ) (x : X) → slice_get (xs ++ y ∷ []) i ≡ Some x
    → (slice_get xs i ≡ Some x) ⊎ ((i ≡ length xs) × (y ≡ x))
push_cases [] y zero x e = inr (refl, cc e)
push_cases [] y (suc i) x e = absurd (cc e)
push_cases (z ∷ zs) y zero x e = inl e
push_cases (z ∷ zs) y (suc i) x e = elim (push_cases zs y i x e)
    [ inl old ↦ inl old | inr last ↦ inr (ap suc last.0, last.1) ]
