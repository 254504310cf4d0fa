-- What the places of the candidates tell: each fails the tests that are marked at its place, and no others.
use Rattle.std.proofs.Common.{◌≡◌, ◌≢◌, ℕ, zero, suc, ◌<◌, ◌+◌, Bool, true, false, List, [], ◌∷◌, length}
use Rattle.std.proofs.Common.{Option, None, Some, IsTrue, refl, sym, ap, ap₂, ◌∙◌, subst, filter, map}
use Rattle.std.proofs.Common.{cond, arith, slice_get}
use Rattle.std.specs.Prelude.{◌↔◌, nat_eq}
use Rattle.std.specs.Option.{option_map, option_map_or}
use Rattle.std.specs.Str.{bytes_eq}
use Rattle.std.proofs.lemmas.Bool.{eqb-true, not-true}
use Rattle.std.proofs.lemmas.Cmp.{nat_eq_equiv}
use Rattle.std.proofs.lemmas.List.{length-map}
use Rattle.std.proofs.lemmas.Option.{slice_get_within, slice_get-map}
use Rattle.std.proofs.lemmas.Option.{same_Some}
use Rattle.std.proofs.lemmas.Map.Views.{list_any-from_Contains}
use Rattle.indexmap.proofs.CallerLemmas.{Contains-list_any}
use Rattle.terms.specs.declared.codes.Test.{Test}
use Rattle.terms.specs.Types.{Id}
use Rattle.terms.specs.Lookups.{IsRising, is_before}
use Rattle.terms.specs.Tests.{Setting, IsChainDeleted, IsInClash, Survives, Fails}
use Rattle.terms.specs.Global.{IsGlobal}
use Rattle.terms.proofs.Pairs.{AllPairs_rest}
use Rattle.terms.proofs.Places.{contains_at}
use Rattle.terms.proofs.TextOrder.{same_itself}
use Rattle.terms.specs.Failures.{all_tests}
use Rattle.judge_faults.specs.declared.own.OwnFaults.{OwnFaults}
use Rattle.judge_faults.specs.Failed.{AreFailedTests}
use Rattle.terms.specs.Beside.{Beside}
use Rattle.judge_faults.specs.Own.{HasFaults, passes}
use Rattle.judge_faults.specs.Forbidding.{AreClashing}
use Rattle.judge_faults.specs.Rows.{fails_test, is_among, row_of}
use Rattle.terms.proofs.IdPlaces.{two_places}
use Rattle.judge_faults.proofs.Clashing.{fails_nine}
use Rattle.terms.proofs.BesideLists.{beside_there}
use Rattle.judge_faults.proofs.Alone.{bytes_differ, survives_if as survives-alone, test_fails as fails-alone}

-- the place of an id and what it fails by itself
abbrev pub own_of : List Id → List OwnFaults → ℕ → Id → Option (ℕ × OwnFaults)
own_of [] faults k x = None
own_of (y ∷ ys) [] k x = None
own_of (y ∷ ys) (a ∷ faults) k x = cond (bytes_eq y x) (Some (k, a)) (own_of ys faults (suc k) x)

own_at_holds : (ids : List Id) (faults : List OwnFaults) (k : ℕ) → IsRising ids → (n m : ℕ) (x : Id) (a : OwnFaults)
    → slice_get ids n ≡ Some x → slice_get faults n ≡ Some a → m ≡ k + n → own_of ids faults k x ≡ Some (m, a)
own_at_holds [] faults k rising n m x a at own place = absurd (cc at)
own_at_holds (y ∷ ys) [] k rising n m x a at own place = absurd (cc own)
own_at_holds (y ∷ ys) (b ∷ faults) k rising zero m x a at own place =
    let same : y ≡ x = same_Some y x at in
    let is : b ≡ a = same_Some b a own in
    let number : k ≡ m = omega (arith, place) in
    ap (λ t. cond t (Some (k, b)) (own_of ys faults (suc k) x)) (subst (λ z. bytes_eq y z ≡ true) same (same_itself y))
    ∙ ap₂ (λ i c. Some (i, c)) number is
own_at_holds (y ∷ ys) (b ∷ faults) k rising (suc n) m x a at own place =
    let other : y ≢ x = two_places (y ∷ ys) rising 0 (suc n) y x refl at (λ e. omega (arith, e)) in
    ap (λ t. cond t (Some (k, b)) (own_of ys faults (suc k) x)) (not-true (bytes_eq y x) (bytes_differ y x other))
    ∙ own_at_holds ys faults (suc k) (AllPairs_rest (λ u v. IsTrue (is_before u v)) y ys rising) n m x a at own
    (omega (arith, place))

module _ (s : Setting) (is_global : IsGlobal s.global) (rising : IsRising s.cands) (faults : List OwnFaults)
    (own : Beside (λ n x a. HasFaults s x a) s.cands faults)
    (eight : (n : ℕ) (x : Id) (a : OwnFaults) → slice_get s.cands n ≡ Some x → slice_get faults n ≡ Some a
    → IsTrue a.chain_deleted ↔ IsChainDeleted s x) where
  abbrev ids : List Id
  ids = s.cands

  pub survives_if : (n : ℕ) (x : Id) (a : OwnFaults) → slice_get ids n ≡ Some x → slice_get faults n ≡ Some a
      → IsTrue (passes a) ↔ Survives s x
  survives_if n x a at at_own =
      survives-alone s is_global x (contains_at ids n x at) a (own.each n x a at at_own) (eight n x a at at_own)

  beside_own : (n : ℕ) (x : Id) → slice_get ids n ≡ Some x → (a : OwnFaults) × (slice_get faults n ≡ Some a)
  beside_own = beside_there ids faults own.lengths

  module _ (marked : List ℕ) (are : AreClashing s.global s.choice ids faults marked) where
    pub nine : (n : ℕ) (x : Id) → slice_get ids n ≡ Some x → IsTrue (is_among marked n) ↔ IsInClash s x
    nine n x at =
        let both = fails_nine s faults own.lengths survives_if n x at in (
          λ on. both.0 ((are n).0 (Contains-list_any nat_eq eqb-true marked n on)),
          λ fails. list_any-from_Contains nat_eq_equiv n marked ((are n).1 (both.1 fails)),
        )

    test_fails : (n : ℕ) (x : Id) (a : OwnFaults) → slice_get ids n ≡ Some x → slice_get faults n ≡ Some a
        → (t : Test) → IsTrue (fails_test a (is_among marked n) t) ↔ Fails s x t
    test_fails n x a at at_own =
        fails-alone s is_global x (contains_at ids n x at) a (own.each n x a at at_own) (eight n x a at at_own)
        (is_among marked n) (nine n x at)

    abbrev fails_at : Option (ℕ × OwnFaults) → Test → Bool
    fails_at o t = option_map_or (λ p. fails_test p.1 (is_among marked p.0) t) o false

    -- the rows of failed tests
    pub are_failed : {R : Type 0} (items : R → List Test) (rows : List R)
        → Beside (λ n a row. items row ≡ row_of marked n a) faults rows → AreFailedTests s (map items rows)
    are_failed {R} items rows beside = record {
      lengths = length-map rows items ∙ beside.lengths ∙ own.lengths;
      fails = λ x. fails_at (own_of ids faults 0 x);
      rows_are = λ n x at. row_at n x at;
      failed = λ n x at t.
          let a = beside_own n x at in
          let is = own_at_holds ids faults 0 rising n n x a.0 at a.1 (omega arith) in
          let both = test_fails n x a.0 at a.1 t in
          (λ on. both.0 (sym (ap (λ o. fails_at o t) is) ∙ on), λ fails. ap (λ o. fails_at o t) is ∙ both.1 fails);
    }
      where
        row_beside : (rs : List R) (n : ℕ) → n < length rs → (r : R) × (slice_get rs n ≡ Some r)
        row_beside [] n below = absurd (omega (arith, below))
        row_beside (r ∷ rs) zero below = (r, refl)
        row_beside (r ∷ rs) (suc n) below = row_beside rs n (omega (arith, below))

        row_at : (n : ℕ) (x : Id) → slice_get ids n ≡ Some x
            → slice_get (map items rows) n ≡ Some (filter (fails_at (own_of ids faults 0 x)) all_tests)
        row_at n x at =
            let a = beside_own n x at in
            let is = own_at_holds ids faults 0 rising n n x a.0 at a.1 (omega arith) in
            let row = row_beside rows n (subst (λ k. n < k) (sym beside.lengths) (slice_get_within faults n a.0 a.1)) in
            slice_get-map items rows n ∙ ap (option_map items) row.1
            ∙ ap (λ l. Some l) (beside.each n a.0 row.0 a.1 row.1)
            ∙ ap (λ o. Some (filter (fails_at o) all_tests)) (sym is)
