-- Each id of the list has the status that is found for it.
use Rattle.std.proofs.Common.{◌≡◌, inl, inr, Bool, true, false, not, List, [], ◌∷◌, Option, Some, None, Contains, refl}
use Rattle.std.proofs.Common.{sym, ap, ◌∙◌}
use Rattle.std.proofs.Common.{subst, true≢false, map}
use Rattle.std.proofs.Common.{IsTrue}
use Rattle.std.specs.Ordering.{nat_cmp}
use Rattle.std.specs.Cmp.Lexicographic.{slice_cmp}
use Rattle.std.proofs.lemmas.List.Kept.{AllPairs-filter}
use Rattle.terms.proofs.Pairs.{pairs_unmap}
use Rattle.std.specs.Prelude.{◌↔◌, find, if◌then◌else◌}
use Rattle.std.specs.Option.{option_map_or}
use Rattle.std.specs.Str.{bytes_eq}
use Rattle.std.proofs.lemmas.List.Elements.{All-contains}
use Rattle.terms.proofs.ListMembers.{here_or, filter_in, in_filter, in_map, none_in}
use Rattle.terms.proofs.Searches.{find_gives}
use Rattle.terms.proofs.TextOrder.{same_from, same_itself}
use Rattle.terms.specs.Types.{Id, Global}
use Rattle.terms.specs.Lookups.{IsRising, is_applied, is_before, is_in}
use Rattle.terms.specs.Rising.{Rises}
use Rattle.terms.specs.Kept.{StaysKept}
use Rattle.terms.specs.Restore.{Restoring, IsRestored, restore_candidates, restore_judging}
use Rattle.terms.proofs.Ids.{is_in_from_Contains, Contains_from_is_in}
use Rattle.machine.specs.Outcome.{Status, Restored, NotApplied, Failed, Line, StatusLine}
use Rattle.machine.specs.Outcome as machine
use Rattle.machine.specs.Installing.{IsFailure}
use Rattle.machine.specs.Restoring.{HasRestoreStatus, IsBack, StaysOn, WasNotOn}
use Rattle.judge_system.specs.declared.failure.Failure.{Failure}
use Rattle.judge_system.specs.Views.{failure_view}
use Rattle.smpe_service.specs.Lines.{AreRestoreLines, status_in, line_in}
use Rattle.smpe_service.specs.RestoreDecided.{IsRestoreDecided}

-- what is not found by its id does not stand there
missing : {V : Type 0} (xs : List (Id × V)) (x : Id) → find (λ f. bytes_eq f.0 x) xs ≡ None
    → Contains (map (λ f. f.0) xs) x → ⊥
missing [] x none h = none_in x h
missing {V} (y ∷ ys) x none h = by (missing ys x) (bytes_eq y.0 x) refl
  where
    by : (find (λ f. bytes_eq f.0 x) ys ≡ None → Contains (map (λ f. f.0) ys) x → ⊥) → (b : Bool)
        → bytes_eq y.0 x ≡ b → ⊥
    by again true e = let impossible : Some y ≡ None = rw e at none in cc
    by again false e = elim (here_or y.0 (map (λ f. f.0) ys) x h) [
      | inl same ↦ true≢false (sym (same_itself x) ∙ ap (λ v. bytes_eq v x) (sym same) ∙ e)
      | inr later ↦ let rest : find (λ f. bytes_eq f.0 x) ys ≡ None = rw e at none in again rest later
    ]

ids_of : (fs : List (Id × Failure)) → map (λ (q : Id × machine.Failure). q.0)
    (map (λ f. (f.0, failure_view f.1)) fs) ≡ map (λ q. q.0) fs
ids_of [] = refl
ids_of (f ∷ fs) = ap (λ l. f.0 ∷ l) (ids_of fs)

-- those that failed rise by their ids
pub failed_rises : (r : Restoring) (ids cands : List Id) → IsRising ids → cands ≡ restore_candidates r ids
    → (kept : List Id) (failed : List (Id × Failure)) → IsRestoreDecided r ids cands kept failed
    → Rises (slice_cmp nat_cmp) (λ f. f.0) failed
failed_rises r ids cands rising are kept failed d =
    let rises : IsRising cands = subst IsRising (sym are)
    (AllPairs-filter (λ x y. IsTrue (is_before x y)) (is_applied r.zone) ids rising) in
    pairs_unmap (λ f h. IsTrue (is_before f.0 h.0)) (λ x y. IsTrue (is_before x y)) (λ f. f.0) (λ f h low. low) failed
    (subst IsRising (sym (sym (ids_of failed) ∙ d.ids))
    (AllPairs-filter (λ x y. IsTrue (is_before x y)) (λ x. not (is_in kept x)) cands rises))

module _ (r : Restoring) (ids cands : List Id) (cands_are : cands ≡ restore_candidates r ids) (kept : List Id)
    (failed : List (Id × Failure)) (d : IsRestoreDecided r ids cands kept failed) where
  -- the kept ones are those that RESTORE takes off
  pub kept_restored : (x : Id) → Contains kept x ↔ IsRestored r ids x
  kept_restored x =
      subst (λ (cs : List Id). Contains kept x ↔ StaysKept (record (restore_judging r ids) { cands = cs }) x) cands_are
      (d.members x)

  not_kept : (x : Id) → is_in kept x ≡ false → ¬ Contains kept x
  not_kept x off there = true≢false (sym (is_in_from_Contains kept x there) ∙ off)

  each : (x : Id) → Contains ids x → HasRestoreStatus r ids kept x (status_in kept failed x)
  each x listed = by_kept (is_in kept x) refl
    where
      failed_id : (f : Id × Failure) → Contains failed f → Contains cands f.0
      failed_id f h =
          (filter_in (λ y. not (is_in kept y)) cands f.0 (subst (λ xs. Contains xs f.0) d.ids
          (in_map (λ (q : Id × machine.Failure). q.0) (map (λ f. (f.0, failure_view f.1)) failed)
          (f.0, failure_view f.1) (in_map (λ (f : Id × Failure). (f.0, failure_view f.1)) failed f h)))).0

      by_found : is_in kept x ≡ false → (o : Option (Id × Failure)) → find (λ f. bytes_eq f.0 x) failed ≡ o
          → HasRestoreStatus r ids kept x (option_map_or (λ f. Failed (failure_view f.1)) o NotApplied)
      by_found off None none =
          WasNotOn listed (λ cand. missing failed x none (subst (λ xs. Contains xs x)
          (sym (sym (ids_of failed) ∙ d.ids)) (in_filter (λ y. not (is_in kept y)) cands x
          (subst (λ xs. Contains xs x) (sym cands_are) cand) (ap not off))))
      by_found off (Some f) found =
          let gives = find_gives (λ (f : Id × Failure). bytes_eq f.0 x) failed f found in
          let same : f.0 ≡ x = same_from f.0 x gives.0 in
          let why = All-contains (λ (q : Id × machine.Failure).
          IsFailure (record (restore_judging r ids) { cands = cands }) kept q.0 q.1)
          (map (λ f. (f.0, failure_view f.1)) failed) (f.0, failure_view f.1)
          d.failures (in_map (λ (f : Id × Failure). (f.0, failure_view f.1)) failed f gives.1) in
          StaysOn (failure_view f.1)
          (subst (λ xs. Contains xs x) cands_are (subst (Contains cands) same (failed_id f gives.1)))
          (not_kept x off)
          (subst (λ (cs : List Id). IsFailure (record (restore_judging r ids) { cands = cs }) kept x (failure_view f.1))
          cands_are
          (subst (λ (y : Id). IsFailure (record (restore_judging r ids) { cands = cands }) kept y (failure_view f.1))
          same why))

      by_kept : (b : Bool) → is_in kept x ≡ b → HasRestoreStatus r ids kept x (status_in kept failed x)
      by_kept true on =
          subst (λ b. HasRestoreStatus r ids kept x (if b then Restored
          else option_map_or (λ f. Failed (failure_view f.1)) (find (λ f. bytes_eq f.0 x) failed) NotApplied)) (sym on)
          (IsBack (Contains_from_is_in kept x on))
      by_kept false off =
          subst (λ b. HasRestoreStatus r ids kept x (if b then Restored
          else option_map_or (λ f. Failed (failure_view f.1)) (find (λ f. bytes_eq f.0 x) failed) NotApplied)) (sym off)
          (by_found off (find (λ f. bytes_eq f.0 x) failed) refl)

  pub restore_lines : (g : Global) → r.global ≡ g → (lines : List Line) → lines ≡ map (line_in g kept failed) ids
      → AreRestoreLines r ids kept lines
  restore_lines g same lines are = record {
    status = status_in kept failed;
    lines_are = are ∙ ap (λ v. map (line_in v kept failed) ids) (sym same);
    each = each;
  }
