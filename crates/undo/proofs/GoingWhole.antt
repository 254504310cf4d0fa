-- Candidates that need only each other.
use Rattle.std.proofs.Common.{◌≡◌, ◌∙◌, Bool, true, false, not, List, [], ◌∷◌, filter, Contains}
use Rattle.std.proofs.Common.{refl, sym, ap, subst, true≢false}
use Rattle.std.specs.List.{list_any, list_all}
use Rattle.std.proofs.lemmas.List.Folds.{list_any-from_Any}
use Rattle.sorted.specs.ElementKeys.{key_cmp}
use Rattle.sorted.specs.MultiMap.{listed}
use Rattle.terms.specs.declared.codes.NeedKind.{NeedKind}
use Rattle.terms.specs.declared.codes.NeedKind.TheVariants.{Fmid, Pre, Req, Ifreq, HoldError, Orphan, Elem, Dep}
use Rattle.terms.specs.declared.codes.Test.{Test}
use Rattle.terms.specs.Failures.{all_tests}
use Rattle.terms.specs.Types.{Id}
use Rattle.terms.specs.Lookups.{IsZone, applied_ids, change_key, changes_of, is_in, is_nil, is_supplied}
use Rattle.terms.specs.Restore.{Restoring, FailsRestore, NeedsInRestore, restore_candidates}
use Rattle.terms.proofs.Applied.{applied_are}
use Rattle.terms.proofs.ChangedElements.{changes_to}
use Rattle.terms.proofs.Ids.{Contains_from_is_in}
use Rattle.terms.proofs.ListMembers.{in_filter, none_in}
use Rattle.terms.proofs.Searches.{passes_all}
use Rattle.judge_system.specs.TestSets.{tests_of}
use Rattle.judge_system.proofs.Passing.{all_there}
use Rattle.undo.specs.Elements.{AreChangers, Changers, is_changed_by}
use Rattle.undo.specs.Needed.{HaveDep}
use Rattle.undo.specs.RestoreTests.{failed_tests, fails_test}
use Rattle.undo.specs.Whole.{GoesWhole, HasChangers, HasDependents}
use Rattle.undo.proofs.RestoreJudged.{needs_alike}
use Rattle.undo.proofs.Testing.{fails_is}

some_listed : (xs : List Id) (y : Id) → Contains xs y → not (is_nil xs) ≡ true
some_listed [] y h = absurd (none_in y h)
some_listed (x ∷ xs) y h = refl

none_listed : {X : Type 0} (xs : List X) → is_nil xs ≡ true → xs ≡ []
none_listed [] e = refl
none_listed (x ∷ xs) e = absurd (true≢false (sym e))

-- what no other SYSMOD changes
pub has_changers_holds : (r : Restoring) → IsZone r.zone → (cands unaccepted others : List Id)
    → unaccepted ≡ filter (λ y. not (is_supplied r.accepted y)) (applied_ids r.zone)
    → others ≡ filter (λ y. not (is_in cands y)) unaccepted
    → (all : Changers) → AreChangers r.global others all
    → list_any (λ x. list_any (is_changed_by all) (changes_of r.global x)) cands ≡ false → HasChangers r cands
has_changers_holds r is_zone cands unaccepted others are_unaccepted are_others all are off x y there need =
    by (is_in cands y) refl
  where
    own : Contains unaccepted y
    own = subst (λ l. Contains l y) (sym are_unaccepted) (in_filter (λ v. not (is_supplied r.accepted v))
        (applied_ids r.zone) y ((applied_are r.zone is_zone y).1 need.applied) (ap not need.not_accepted))

    by : (b : Bool) → is_in cands y ≡ b → Contains cands y
    by true e = Contains_from_is_in cands y e
    by false e =
        let s = need.shared in
        let h = s.1 in
        let other = subst (λ l. Contains l y) (sym are_others)
        (in_filter (λ v. not (is_in cands v)) unaccepted y own (ap not e)) in
        let on = some_listed (listed key_cmp all (change_key h)) y ((are (change_key h) y).1 (
          y,
          other,
          (changes_to r.global y h.elem_type h.name s.4, refl),
        )) in
        let inner = list_any-from_Any (is_changed_by all) (changes_of r.global x) (s.0, h, s.2, s.3, on) in
        let outer = list_any-from_Any (λ v. list_any (is_changed_by all) (changes_of r.global v)) cands
        (there.0, x, there.1, there.2, inner) in
        absurd (true≢false (sym outer ∙ off))

-- what no other SYSMOD depends on
pub has_dependents_holds : (r : Restoring) (cands : List Id) (pairs : List (Id × Id)) → HaveDep r cands pairs
    → list_all (λ (p : Id × Id). is_in cands p.1) pairs ≡ true → HasDependents r cands
has_dependents_holds r cands pairs have all x y there need =
    Contains_from_is_in cands y (passes_all (λ (p : Id × Id). is_in cands p.1) pairs (x, y) all
    ((have x y need.other there).1 need))

-- they pass the tests, and need only each other
pub goes_whole : (r : Restoring) → IsZone r.zone → (cands : List Id)
    → list_all (λ x. is_nil (tests_of (failed_tests r x))) cands ≡ true → HasChangers r cands → HasDependents r cands
    → (list : List Id) → cands ≡ restore_candidates r list → GoesWhole r list cands
goes_whole r is_zone cands pass changers dependents list are x there = (
  record { cand = subst (λ l. Contains l x) are there; passes = passes },
  λ kind y need. by kind y ((needs_alike r is_zone list cands are x kind y).1 need),
)
  where
    passes : (t : Test) → ¬ FailsRestore r x t
    passes t fails =
        none_in t (subst (λ l. Contains l t)
        (none_listed (tests_of (failed_tests r x))
        (passes_all (λ v. is_nil (tests_of (failed_tests r v))) cands x pass there))
        (in_filter (fails_test r x) all_tests t (all_there t) ((fails_is r x t).1 fails)))

    by : (kind : NeedKind) (y : Id) → NeedsInRestore r (is_in cands) x kind y → Contains cands y
    by Elem y n = changers x y there n.1
    by Dep y n = dependents x y there n.1
    by Fmid y n = absurd n
    by Pre y n = absurd n
    by Req y n = absurd n
    by Ifreq y n = absurd n
    by HoldError y n = absurd n
    by Orphan y n = absurd n
