-- Lists that gain items, one list after the other.
use Rattle.std.proofs.Common.{◌≡◌, inl, inr, ℕ, ◌<◌, ◌+◌, List, [], ◌∷◌, ◌++◌, length, take, get_or, sym, subst}
use Rattle.std.proofs.Common.{Contains}
use Rattle.std.specs.Prelude.{◌↔◌}
use Rattle.std.proofs.lemmas.List.Elements.{Contains-append_left, Contains-append_right, Contains-append_cases}
use Rattle.std.proofs.lemmas.List.Elements.{Contains-push, Contains-push_cases}
use Rattle.terms.proofs.ListMembers.{none_in}
use Rattle.terms.proofs.Lists.{front_more}
use Rattle.stream.specs.Gaining.{Gains, OneOf}

module _ {X : Type 0} where
  pub gains_alike : (P Q : X → Type 0) (old new : List X) → ((x : X) → P x ↔ Q x) → Gains P old new → Gains Q old new
  gains_alike P Q old new same gains x = (
    λ h. elim ((gains x).0 h) [ inl was ↦ inl was | inr p ↦ inr ((same x).0 p) ],
    λ h. (gains x).1 (elim h [ inl was ↦ inl was | inr q ↦ inr ((same x).1 q) ]),
  )

  pub gains_nothing : (P : X → Type 0) (old : List X) → ((x : X) → ¬ P x) → Gains P old old
  gains_nothing P old none x = (λ h. inl h, λ h. elim h [ inl was ↦ was | inr p ↦ absurd (none x p) ])

  -- by one item
  pub gains_pushed : (old new : List X) (y : X) → new ≡ old ++ y ∷ [] → Gains (λ x. x ≡ y) old new
  gains_pushed old new y made x = (
    λ h. elim (Contains-push_cases old y x (subst (λ l. Contains l x) made h)) [
      | inl was ↦ inl was
      | inr is ↦ inr (sym is)
    ],
    λ h. subst (λ l. Contains l x) (sym made) (elim h [
      | inl was ↦ Contains-append_left old (y ∷ []) x was
      | inr is ↦ subst (Contains (old ++ y ∷ [])) (sym is) (Contains-push old y)
    ]),
  )

  -- by a list
  pub gains_list : (old new more : List X) → new ≡ old ++ more → Gains (Contains more) old new
  gains_list old new more made x = (
    λ h. Contains-append_cases old more x (subst (λ l. Contains l x) made h),
    λ h. subst (λ l. Contains l x) (sym made) (elim h [
      | inl was ↦ Contains-append_left old more x was
      | inr is ↦ Contains-append_right old more x is
    ]),
  )

  -- what an empty list has gained is all that it has
  pub gained : (P : X → Type 0) (new : List X) → Gains P [] new → (x : X) → Contains new x ↔ P x
  gained P new gains x = (
    λ h. elim ((gains x).0 h) [ inl was ↦ absurd (none_in x was) | inr p ↦ p ],
    λ p. (gains x).1 (inr p),
  )

  module _ {Y : Type 0} (More : Y → X → Type 0) where
    pub gains_none : (old : List X) → Gains (OneOf [] More) old old
    gains_none old = gains_nothing (OneOf [] More) old (λ x h. none_in h.0 h.1)

    -- by the next of a list, as a loop goes over it
    pub gains_next : (old middle new : List X) (ys : List Y) (i : ℕ) (y : Y) → i < length ys → y ≡ get_or ys i y
        → Gains (OneOf (take i ys) More) old middle → Gains (More y) middle new
        → Gains (OneOf (take (i + 1) ys) More) old new
    gains_next old middle new ys i y below at first second =
        subst (λ l. Gains (OneOf l More) old new) (sym (front_more ys i y below at)) (λ x. (
          λ h. elim ((second x).0 h) [
            | inl between ↦ elim ((first x).0 between) [
              | inl was ↦ inl was
              | inr one ↦ inr (one.0, Contains-append_left (take i ys) (y ∷ []) one.0 one.1, one.2)
            ]
            | inr more ↦ inr (y, Contains-push (take i ys) y, more)
          ],
          λ h. (second x).1 (elim h [
            | inl was ↦ inl ((first x).1 (inl was))
            | inr one ↦ elim (Contains-push_cases (take i ys) y one.0 one.1) [
              | inl before ↦ inl ((first x).1 (inr (one.0, before, one.2)))
              | inr this ↦ inr (subst (λ z. More z x) (sym this) one.2)
            ]
          ]),
        ))
