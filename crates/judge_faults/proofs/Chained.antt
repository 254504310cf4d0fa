-- Chains of claims: what is over the last of some is over all of them.
use Rattle.std.proofs.Common.{◌≡◌, ◌∙◌, inl, inr, ℕ, ◌+◌, ◌<◌, ◌≤◌, List, Some, sym, subst, arith, get_or, slice_get}
use Rattle.std.proofs.Common.{length, take_all}
use Rattle.std.specs.Prelude.{All, take, drop}
use Rattle.std.proofs.lemmas.Bool.{cases_eq}
use Rattle.std.proofs.lemmas.List.{get_or-take, get_or-drop, length-take-le, length-drop}
use Rattle.std.proofs.lemmas.Option.{slice_get_within, get_or_from_slice_get}
use Rattle.terms.specs.Types.{Global}
use Rattle.terms.specs.Choice.{Choice}
use Rattle.terms.specs.Over.{names}
use Rattle.terms.proofs.Leads.{reaches_through}
use Rattle.judge_faults.specs.declared.claims.Claim.{Claim}
use Rattle.judge_faults.specs.Sharing.{IsBelow, IsChain, FitsAt}

module _ (g : Global) (c : Choice) where
  pub below_through : (a b d : Claim) → IsBelow g c a b → IsBelow g c b d → IsBelow g c a d
  below_through a b d first second =
      (first.0 ∙ second.0, reaches_through (names c) d.id b.id a.id second.1 first.1)

  module _ (chain : List Claim) (a : Claim) (ordered : IsChain g c chain) where
    -- what is over one is over all up to it
    pub front_below : (k : ℕ) (b : Claim) → slice_get chain k ≡ Some b → IsBelow g c b a
        → All (λ b. IsBelow g c b a) (take (k + 1) chain)
    front_below k b at below i d within =
        let inside = slice_get_within chain k b at in
        let i_at : i < k + 1 = omega (arith, within, length-take-le (k + 1) chain (omega (arith, inside))) in
        let is_k : get_or chain k d ≡ b = get_or_from_slice_get chain k b d at in
        subst (λ e. IsBelow g c e a) (sym (get_or-take (k + 1) chain i d i_at)) (elim (cases_eq i k) [
          | inl same ↦ subst (λ j. IsBelow g c (get_or chain j d) a) (sym same)
              (subst (λ e. IsBelow g c e a) (sym is_k) below)
          | inr other ↦ below_through (get_or chain i d) b a
              (subst (IsBelow g c (get_or chain i d)) is_k (ordered i k d (omega (arith, i_at, other)) inside)) below
        ])

    -- and what is below one is below all from it on
    pub back_above : (k : ℕ) (b : Claim) → slice_get chain k ≡ Some b → IsBelow g c a b
        → All (λ b. IsBelow g c a b) (drop k chain)
    back_above k b at below i d within =
        let inside : k + i < length chain = omega (arith, within, length-drop k chain) in
        let is_k : get_or chain k d ≡ b = get_or_from_slice_get chain k b d at in
        subst (IsBelow g c a) (sym (get_or-drop k chain i d)) (elim (cases_eq i 0) [
          | inl same ↦ subst (λ j. IsBelow g c a (get_or chain j d)) (omega (arith, same))
              (subst (IsBelow g c a) (sym is_k) below)
          | inr other ↦ below_through a b (get_or chain (k + i) d) below
              (subst (λ e. IsBelow g c e (get_or chain (k + i) d)) is_k
              (ordered k (k + i) d (omega (arith, other)) inside))
        ])

    pub end_below : (k : ℕ) (b : Claim) → slice_get chain k ≡ Some b → length chain ≤ k + 1 → IsBelow g c b a
        → All (λ b. IsBelow g c b a) chain
    end_below k b at last below =
        subst (All (λ b. IsBelow g c b a)) (take_all (k + 1) chain last) (front_below k b at below)

    pub fits_end : All (λ b. IsBelow g c b a) chain → FitsAt g c chain a (length chain)
    fits_end all = record {
      within = omega arith;
      front = subst (All (λ b. IsBelow g c b a)) (sym (take_all (length chain) chain (omega arith))) all;
      back = λ i d within. absurd (omega (arith, within, length-drop (length chain) chain));
    }

    pub fits_front : All (λ b. IsBelow g c a b) (drop 0 chain) → FitsAt g c chain a 0
    fits_front all = record {
      within = omega arith;
      front = λ i d within. absurd (omega (arith, within));
      back = all;
    }
