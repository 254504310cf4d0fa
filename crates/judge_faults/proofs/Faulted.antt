-- What a candidate fails of the tests that look at it by itself, from what each test answered.
use Rattle.std.proofs.Common.{◌≡◌, List, Option, filter, IsTrue, IsFalse, subst}
use Rattle.std.specs.Prelude.{◌↔◌, Any}
use Rattle.std.specs.List.{list_any}
use Rattle.terms.specs.declared.kinds.HoldKind.TheVariants.{System, User}
use Rattle.terms.specs.Types.{Id, Change, Global}
use Rattle.terms.specs.Lookups.{changes_of, is_in}
use Rattle.terms.specs.Choice.{Choice, fmid_of}
use Rattle.terms.specs.Over.{chain, owner}
use Rattle.terms.specs.Deleted.{deletions, zone_less}
use Rattle.terms.specs.Tests.{Setting, HasSeveralFit}
use Rattle.judge_faults.specs.declared.own.OwnFaults.{OwnFaults}
use Rattle.judge_faults.specs.Forbidders.{IsForbidden}
use Rattle.judge_faults.specs.Own.{has_unbypassed_hold, is_owned_by_another, IsLowerAt, has_nothing_to_update}
use Rattle.judge_faults.specs.Own.{fails_applycheck, HasFaults}

-- the answers, with the deletions of its view, its owner, FMID and element statements
pub record Answered (s : Setting) (x : Id) (a : OwnFaults) (g : Global) (c : Choice) (dels : List Id) (own : Id)
    (fmid : Option Id) (changes : List Change) : Type 0 where
  pub held_by_system : a.held_by_system ≡ has_unbypassed_hold s System x
  pub held_by_user : a.held_by_user ≡ has_unbypassed_hold s User x
  pub forbidden_by_npre : IsTrue a.forbidden_by_npre ↔ IsForbidden g c (zone_less g c dels s.zone) x
  pub owned_by_another : a.owned_by_another ≡ list_any (is_owned_by_another (zone_less g c dels s.zone) own) changes
  pub regression : IsTrue a.regression
      ↔ (IsFalse s.bypass.same_id × Any (IsLowerAt c (zone_less g c dels s.zone) x) changes)
  pub nothing_to_update : a.nothing_to_update
      ≡ list_any (has_nothing_to_update s.global (zone_less g c dels s.zone) s.cands fmid) changes
  pub not_in_target : a.not_in_target ≡ fails_applycheck s x
  pub several_fit : IsTrue a.several_fit ↔ HasSeveralFit s x

module _ (s : Setting) (x : Id) (a : OwnFaults) where
  abbrev view_dels : Global → Choice → List Id
  view_dels g c = deletions c (filter (is_in s.cands) (chain g c x))

  pub faults_from : (g : Global) (c : Choice) (dels : List Id) (own : Id) (fmid : Option Id) (changes : List Change)
      → g ≡ s.global → c ≡ s.choice → dels ≡ view_dels g c → own ≡ owner g c x → fmid ≡ fmid_of c x
      → changes ≡ changes_of s.global x → Answered s x a g c dels own fmid changes → HasFaults s x a
  faults_from g c dels own fmid changes eg ec ed eo ef eh told =
      let all = changes_of s.global x in
      let t1 = subst (λ h. Answered s x a g c dels own fmid h) eh told in
      let t2 = subst (λ f. Answered s x a g c dels own f all) ef t1 in
      let t3 = subst (λ o. Answered s x a g c dels o (fmid_of c x) all) eo t2 in
      let t4 = subst (λ d. Answered s x a g c d (owner g c x) (fmid_of c x) all) ed t3 in
      let t5 = subst (λ k. Answered s x a g k (view_dels g k) (owner g k x) (fmid_of k x) all) ec t4 in
      let t6 = subst (λ w. Answered s x a w s.choice (view_dels w s.choice) (owner w s.choice x) (fmid_of s.choice x)
      all) eg t5 in
      record {
        held_by_system = t6.held_by_system;
        held_by_user = t6.held_by_user;
        forbidden_by_npre = t6.forbidden_by_npre;
        owned_by_another = t6.owned_by_another;
        regression = t6.regression;
        nothing_to_update = t6.nothing_to_update;
        not_in_target = t6.not_in_target;
        several_fit = t6.several_fit;
      }
