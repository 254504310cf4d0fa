-- The place of an id among those that rise.
use Rattle.std.proofs.Common.{◌≡◌, inl, inr, ℕ, false, List, [], ◌∷◌, Some, sym, ap, ◌∙◌, subst}
use Rattle.std.proofs.Common.{true≢false}
use Rattle.std.proofs.Common.{Contains, arith, slice_get}
use Rattle.std.specs.Prelude.{get_or, position}
use Rattle.std.specs.Str.{bytes_eq}
use Rattle.std.proofs.lemmas.List.Quantifiers.{position-Some}
use Rattle.std.proofs.lemmas.Slice.Eq.{bytes_eq-Decides}
use Rattle.std.proofs.lemmas.Option.{slice_get-get_or, same_Some}
use Rattle.terms.proofs.ListMembers.{here_or, none_in}
use Rattle.terms.proofs.Places.{contains_at}
use Rattle.terms.specs.Types.{Id}
use Rattle.terms.specs.Lookups.{IsRising, is_in}
use Rattle.terms.proofs.Ids.{is_in_from_Contains}
use Rattle.judge_system.specs.Serving.{AreOwnPlaces}
use Rattle.judge_system.proofs.CandidateIds.{one_number}

pub one_place : (ids : List Id) → IsRising ids → (i : ℕ) (z : Id) → slice_get ids i ≡ Some z
    → AreOwnPlaces ids z (i ∷ [])
one_place ids rising i z at n y at_y = (
  λ h.
      let same : i ≡ n = elim (here_or i [] n h) [ inl here ↦ here | inr later ↦ absurd (none_in n later) ] in
      same_Some y z (sym at_y ∙ subst (λ k. slice_get ids k ≡ Some z) same at),
  λ e. (
    0,
    omega arith,
    one_number ids rising i n z at (subst (λ v. slice_get ids n ≡ Some v) e at_y),
  ),
)

pub no_place : (ids : List Id) (z : Id) → is_in ids z ≡ false → AreOwnPlaces ids z []
no_place ids z none n y at_y = (
  λ h. absurd (none_in n h),
  λ e. absurd (true≢false (sym (is_in_from_Contains ids z (subst (Contains ids) e (contains_at ids n y at_y))) ∙ none)),
)

-- what a look-up finds
pub place_stands : (ids : List Id) (z : Id) (n : ℕ) → position (bytes_eq z) ids ≡ Some n → slice_get ids n ≡ Some z
place_stands ids z n is =
    let at = position-Some (bytes_eq z) ids n [] is in
    slice_get-get_or ids n [] at.0 ∙ ap (λ v. Some v) (sym ((bytes_eq-Decides z (get_or ids n [])).0 at.1))
