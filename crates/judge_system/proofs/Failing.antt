-- Candidates that failed, as the candidates are gone through.
use Rattle.std.proofs.Common.{◌≡◌, ℕ, ◌+◌, true, false, not, cond, List, [], ◌∷◌, ◌++◌, map, take, Some, sym, ap, ap₂}
use Rattle.std.proofs.Common.{◌∙◌, subst, slice_get}
use Rattle.std.specs.Prelude.{All}
use Rattle.std.proofs.lemmas.List.{take_more, map-append, append-nil}
use Rattle.std.proofs.lemmas.List.Elements.{All-append, All-cons, All-nil, filter-append}
use Rattle.std.proofs.lemmas.Option.{slice_get_within, get_or_from_slice_get}
use Rattle.terms.specs.Types.{Id}
use Rattle.terms.specs.Lookups.{is_in}
use Rattle.judge_system.specs.Views.{failure_view}
use Rattle.judge_system.specs.declared.failure.Failure.{Failure}
use Rattle.judge_system.specs.declared.failures.Findings.{Findings}
use Rattle.judge_system.specs.Findings.{AddsFailure, AreFailures, IsFailed, IsFailureAt, not_kept}

-- the candidate at a place, kept or not
pub adds_one : (ids kept : List Id) (found : Findings) (place : ℕ) (id : Id) (f : Failure)
    (old new : List (Id × Failure)) → slice_get ids place ≡ Some id
    → is_in kept id ≡ false → new ≡ old ++ (id, f) ∷ [] → IsFailureAt ids found place (failure_view f)
    → AddsFailure ids kept found place old new
adds_one ids kept found place id f old new at off made is = record {
  more = (id, f) ∷ [];
  added = made;
  ids_are = λ x at_x.
      let same : id ≡ x = cc (at, at_x) in
      subst (λ y. id ∷ [] ≡ not_kept kept (y ∷ [])) same (ap (λ b. cond (not b) (id ∷ []) []) (sym off));
  failed = All-cons (IsFailed ids found) (id, f) [] (place, at, is) (All-nil (IsFailed ids found));
}

pub adds_none : (ids kept : List Id) (found : Findings) (place : ℕ) (id : Id) (old : List (Id × Failure))
    → slice_get ids place ≡ Some id
    → is_in kept id ≡ true → AddsFailure ids kept found place old old
adds_none ids kept found place id old at on = record {
  more = [];
  added = sym (append-nil old);
  ids_are = λ x at_x.
      let same : id ≡ x = cc (at, at_x) in
      subst (λ y. [] ≡ not_kept kept (y ∷ [])) same (ap (λ b. cond (not b) (id ∷ []) []) (sym on));
  failed = All-nil (IsFailed ids found);
}

-- one more candidate
pub failures_next : (ids kept : List Id) (found : Findings) (i : ℕ) (x : Id) (old new : List (Id × Failure))
    → slice_get ids i ≡ Some x
    → AddsFailure ids kept found i old new → AreFailures ids kept found i old → AreFailures ids kept found (i + 1) new
failures_next ids kept found i x old new at adds so_far = record {
  ids_are =
      let whole : take (i + 1) ids ≡ take i ids ++ x ∷ [] =
      take_more ids i x (slice_get_within ids i x at) ∙ ap (λ v. take i ids ++ v ∷ [])
      (get_or_from_slice_get ids i x x at) in
      ap (map (λ p. p.0)) adds.added ∙ map-append (λ p. p.0) old adds.more
      ∙ ap₂ (λ a b. a ++ b) so_far.ids_are (adds.ids_are x at)
      ∙ sym (ap (not_kept kept) whole ∙ filter-append _ (take i ids) (x ∷ []));
  each = subst (All (IsFailed ids found)) (sym adds.added) (All-append (IsFailed ids found) old adds.more so_far.each
      adds.failed);
}
