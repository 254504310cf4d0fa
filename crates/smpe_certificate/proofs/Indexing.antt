-- The needs that each candidate serves, one need after the other.
use Rattle.std.proofs.Common.{◌≡◌, ◌<◌, ◌≤◌, ◌+◌, ℕ, List, [], ◌++◌, Some, length, replicate, slice_get}
use Rattle.std.proofs.Common.{Contains, sym, subst, arith, inl, inr}
use Rattle.std.specs.Prelude.{Vec}
use Rattle.std.specs.declared.alloc.Global.{Global}
use Rattle.std.specs.List.{All}
use Rattle.std.proofs.lemmas.List.Elements.{Contains-append_left, Contains-append_right, All-append}
use Rattle.std.proofs.lemmas.List.Elements.{All-replicate}
use Rattle.std.proofs.lemmas.Option.{slice_get_within}
use Rattle.std.proofs.lemmas.Bool.{cases_eq}
use Rattle.solve.specs.System.{System, Need}
use Rattle.solve.specs.Rows.{row_at, times}
use Rattle.solve.proofs.Choosing.{same_at}
use Rattle.solve.proofs.Times.{times_from_Contains, replicate_Contains}
use Rattle.smpe_certificate.specs.Index.{AreServed}

-- the rows have the needs before a place
pub record AreServedBelow (p : System) (end : ℕ) (rows : List (Vec ℕ Global)) : Type 0 where
  pub size : length rows ≡ p.size
  pub within : (y : ℕ) → All (λ k. k < length p.needs) (row_at rows y)
  pub all : (k y : ℕ) (d : Need) → k < end → slice_get p.needs k ≡ Some d → Contains d.any y
      → Contains (row_at rows y) k

pub served_start : (p : System) (rows : List (Vec ℕ Global)) → length rows ≡ p.size
    → ((y : ℕ) → row_at rows y ≡ []) → AreServedBelow p 0 rows
served_start p rows size empty = record {
  size = size;
  within = λ y. rw (empty y) (λ k d below. absurd (omega (arith, below)));
  all = λ k y d below at serves. absurd (omega (arith, below));
}

pub served_next : (p : System) (place : ℕ) (need : Need) (old new : List (Vec ℕ Global))
    → slice_get p.needs place ≡ Some need → length new ≡ p.size
    → ((y : ℕ) → row_at new y ≡ row_at old y ++ replicate (times y need.any) place)
    → AreServedBelow p place old → AreServedBelow p (place + 1) new
served_next p place need old new at size added so_far = record {
  size = size;
  within = λ y. rw (added y) (All-append (λ k. k < length p.needs) (row_at old y)
      (replicate (times y need.any) place) (so_far.within y)
      (All-replicate (λ k. k < length p.needs) (times y need.any) place (slice_get_within p.needs place need at)));
  all = λ k y d below at_k serves. rw (added y) (elim (cases_eq k place) [
    | inl same ↦
        let one : d ≡ need = same_at p.needs k place d need same at_k at in
        let some = times_from_Contains y need.any (subst (λ n. Contains n.any y) one serves) in
        subst (Contains (row_at old y ++ replicate (times y need.any) place)) (sym same)
        (Contains-append_right (row_at old y) (replicate (times y need.any) place) place
        (replicate_Contains (times y need.any) place some))
    | inr other ↦ Contains-append_left (row_at old y) (replicate (times y need.any) place) k
        (so_far.all k y d (omega (arith, below, other)) at_k serves)
  ]);
}

pub served_end : (p : System) (end : ℕ) (rows : List (Vec ℕ Global)) → length p.needs ≤ end
    → AreServedBelow p end rows → AreServed p rows
served_end p end rows whole so_far = record {
  size = so_far.size;
  within = so_far.within;
  all = λ k y d at serves. so_far.all k y d (omega (arith, whole, slice_get_within p.needs k d at)) at serves;
}
