-- What can't be refuted of each item of a list can't be refuted of all of them.
use Rattle.std.proofs.Common.{◌⊎◌, inl, inr, Bool, true, false, List, [], ◌∷◌, Contains, IsTrue, refl, sym, subst}
use Rattle.std.proofs.Common.{true≢false}
use Rattle.std.specs.Prelude.{◌↔◌}
use Rattle.terms.proofs.ListMembers.{here, there, here_or, none_in}
use Rattle.terms.specs.Types.{Id}
use Rattle.terms.proofs.Ids.{in_or_not}

pub all_stably : {X : Type 0} (P : X → Type 0) (xs : List X) → ((x : X) → Contains xs x → ¬ ¬ P x)
    → ¬ ¬ ((x : X) → Contains xs x → P x)
all_stably P [] each refuted = refuted (λ x is. absurd (none_in x is))
all_stably P (x ∷ xs) each refuted =
    each x (here x xs) (λ first.
    all_stably P xs (λ y later. each y (there x xs y later)) (λ rest.
    refuted (λ y is. elim (here_or x xs y is) [
      | inl same ↦ subst P same first
      | inr later ↦ rest y later
    ])))

pub either_stably : (A : Type 0) → ¬ ¬ (A ⊎ (¬ A))
either_stably A refuted = refuted (inr (λ a. refuted (inl a)))

-- which of the two it is
pub is_so : {A : Type 0} → A ⊎ (¬ A) → Bool
is_so (inl a) = true
is_so (inr none) = false

pub so_exactly : {A : Type 0} (d : A ⊎ (¬ A)) → IsTrue (is_so d) ↔ A
unfolding is_so
so_exactly (inl a) = (λ so. a, λ a. refl)
so_exactly (inr none) = (λ so. absurd (true≢false (sym so)), λ a. absurd (none a))

-- Those ids of a list that have a property make a set.
pub set_stably : (P : Id → Type 0) (xs : List Id)
    → ¬ ¬ ((set : Id → Bool) × ((x : Id) → IsTrue (set x) ↔ (Contains xs x × P x)))
set_stably P xs refuted =
    all_stably (λ x. P x ⊎ (¬ P x)) xs (λ x is. either_stably (P x)) (λ decided.
    let whether : (x : Id) → (Contains xs x × P x) ⊎ (¬ (Contains xs x × P x)) = λ x.
    elim (in_or_not xs x) [
      | inl is ↦ elim (decided x is) [
        | inl has ↦ inl (is, has)
        | inr lacks ↦ inr (λ both. lacks both.1)
      ]
      | inr out ↦ inr (λ both. out both.0)
    ] in
    refuted (λ x. is_so (whether x), λ x. so_exactly (whether x)))
