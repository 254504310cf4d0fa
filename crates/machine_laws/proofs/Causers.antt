-- Each line of a failed id names a causer, and each causer that it names has such a line itself, with a failed test or
-- with a need that no candidate serves.
use Rattle.std.proofs.Common.{◌≡◌, ◌≢◌, inl, inr, Bool, List, Option, Contains}
use Rattle.std.proofs.Common.{map, refl, sym, subst}
use Rattle.std.specs.Prelude.{◌↔◌}
use Rattle.terms.proofs.ListMembers.{in_map, map_in, filter_in}
use Rattle.terms.specs.declared.codes.NeedKind.{NeedKind}
use Rattle.terms.specs.declared.codes.NeedKind.TheVariants as need
use Rattle.terms.specs.declared.codes.Test.{Test}
use Rattle.terms.specs.declared.codes.Test.TheVariants as test
use Rattle.terms.specs.declared.kinds.ZoneKind.{ZoneKind}
use Rattle.terms.specs.declared.kinds.ZoneKind.TheVariants.{Target, Distribution}
use Rattle.terms.specs.declared.not_chosen.NotChosen.{NotChosen}
use Rattle.terms.specs.declared.not_chosen.NotChosen.TheVariants as out
use Rattle.terms.specs.Types.{Text, Id, Global, Zone, Bypass, Selection, RestoreList}
use Rattle.terms.specs.Lookups.{is_in, is_applied, applied_ids}
use Rattle.terms.specs.Tests.{Setting, Fails, FailsAlone, IsEligible}
use Rattle.terms.specs.Needs.{asked}
use Rattle.terms.specs.Judged.{Stays, install_judging}
use Rattle.terms.specs.Failures.{HasFailed, IsCauser}
use Rattle.terms.specs.Restore.{Restoring, NeedsInRestore, restore_candidates, restore_judging}
use Rattle.terms.proofs.Ids.{in_or_not}
use Rattle.machine.specs.Outcome.{Status, Failed, Failure, Line, StatusLine, Place}
use Rattle.machine.specs.Receiving.{place_of}
use Rattle.machine.specs.Installing.{IsFailure, Decision, IsDecision, HasStatus, IsInstalled, IsSuperseded, IsFailed}
use Rattle.machine.specs.Installing.{IsNotChosen, installed_status, not_chosen_status, AreInstallLines}
use Rattle.machine.specs.Restoring.{HasRestoreStatus, IsBack, StaysOn, WasNotOn, RestoresListed}
use Rattle.machine_laws.proofs.Decided.{survivors_only}
use Rattle.machine_laws.proofs.InstallLines.{IsSound, sound, in_kept, chosen}
use Rattle.machine_laws.specs.Causers.{HasFailedLine, IsCaused}
use Rattle.machine_laws.proofs.Causes.{cause_of, failure_stably, names_causer}
use Rattle.terms.proofs.Applied.{in_applied_ids}

-- the line of an id, among lines by id
line_in : (place : Id → Place) (status : Id → Status) (ids : List Id) (x : Id) (p : Place) (s : Status)
    → Contains (map (λ x. StatusLine x (place x) (status x)) ids) (StatusLine x p s) → Contains ids x × (status x ≡ s)
line_in place status ids x p s is =
    let from = map_in (λ x. StatusLine x (place x) (status x)) ids (StatusLine x p s) is in
    let same : from.0 ≡ x = cc (from.2) in
    let says : status from.0 ≡ s = cc (from.2) in
    (subst (Contains ids) same from.1, subst (λ x. status x ≡ s) same says)

-- ---- APPLY and ACCEPT

-- a candidate that fails no test is eligible
passes_all : (s : Setting) (x : Id) → Contains s.cands x → ((t : Test) → ¬ Fails s x t) → IsEligible s x
passes_all s x is passes = (((is, alone), passes test.ChainDeleted), passes test.InClash)
  where
    alone : (t : Test) → ¬ FailsAlone s x t
    alone test.HeldBySystem fails = passes test.HeldBySystem fails
    alone test.HeldByUser fails = passes test.HeldByUser fails
    alone test.ForbiddenByNpre fails = passes test.ForbiddenByNpre fails
    alone test.OwnedByAnother fails = passes test.OwnedByAnother fails
    alone test.Regression fails = passes test.Regression fails
    alone test.NothingToUpdate fails = passes test.NothingToUpdate fails
    alone test.NotInTarget fails = passes test.NotInTarget fails
    alone test.ChainDeleted fails = fails
    alone test.InClash fails = fails
    alone test.AlreadyAccepted fails = fails
    alone test.HasDelete fails = fails
    alone test.OtherLevel fails = fails
    alone test.SeveralFit fails = passes test.SeveralFit fails

module _ (d : Decision) (sel : Selection) where
  -- x failed, by this failure
  abbrev FailedBy : Id → Failure → Type 0
  FailedBy x f =
      HasFailed (install_judging d.setting d.survivors) d.kept x
      × IsFailure (install_judging d.setting d.survivors) d.kept x f

  installed_not : (kind : ZoneKind) (f : Failure) → installed_status kind ≢ Failed f
  installed_not Target f same = cc same
  installed_not Distribution f same = cc same

  unchosen_not : (why : NotChosen) (f : Failure) → not_chosen_status why ≢ Failed f
  unchosen_not out.Already f same = cc same
  unchosen_not out.Deleted f same = cc same
  unchosen_not out.Missing f same = cc same
  unchosen_not out.NoVer f same = cc same
  unchosen_not out.NotApplied f same = cc same

  failed_by : (x : Id) (s : Status) (f : Failure) → HasStatus d sel x s → s ≡ Failed f → FailedBy x f
  failed_by x s f (IsInstalled e) same = absurd (installed_not d.setting.zone.kind f same)
  failed_by x s f (IsSuperseded k other) same = absurd (cc same)
  failed_by x s f (IsFailed h c off why) same =
      let is : h ≡ f = cc same in (
        record { cand = c; not_kept = off },
        subst (λ f. IsFailure (install_judging d.setting d.survivors) d.kept x f) is why,
      )
  failed_by x s f (IsNotChosen why at) same = absurd (unchosen_not why f same)

  -- what has failed has the status of a failure
  status_failed : IsSound d sel → (x : Id) (s : Status) → HasStatus d sel x s → Contains d.setting.cands x
      → (¬ Contains d.kept x) → (h : Failure) × (s ≡ Failed h)
  status_failed is x s (IsInstalled e) cand off = absurd (off (in_kept d sel is x e))
  status_failed is x s (IsSuperseded k other) cand off = absurd (off k)
  status_failed is x s (IsFailed h c off' why) cand off = (h, refl)
  status_failed is x s (IsNotChosen why at) cand off = chosen d sel is x why cand at

pub install_caused : (g : Global) (zone : Zone) (related : Option Zone) (sel : Selection) (bypass : Bypass)
    (date : Text) (d : Decision) → IsDecision g zone related sel bypass date d → (lines : List Line)
    → AreInstallLines d sel lines → (x : Id) (f : Failure) → HasFailedLine lines x f
    → IsCaused (install_judging d.setting d.survivors) d.kept lines f
install_caused g zone related sel bypass date d decides lines are x f (place, printed) = record {
  some = names_causer (install_judging d.setting d.survivors) d.kept (asked d.setting d.survivors)
      (λ x z kind needs. needs.asks) (λ x is. is.0.0.0) members x f by.0 by.1;
  each = λ y causer.
      let is : IsCauser (install_judging d.setting d.survivors) d.kept x y = (by.1.causers y).0 causer in
      let line = line_of y is.root.failed in (
        line.0,
        line.1,
        cause_of (install_judging d.setting d.survivors) d.kept y line.0 (passes_all d.setting) line.2.1 is.root,
      );
}
  where
    members : (x : Id) → Contains d.kept x ↔ Stays d.setting d.survivors x
    members = subst (λ ids. (x : Id) → Contains d.kept x ↔ Stays d.setting ids x)
        (survivors_only d.setting decides.kept.survivors d.survivors decides.kept.are_survivors decides.survivors)
        decides.kept.members

    by : FailedBy d sel x f
    by =
        let found = line_in (place_of d.setting.global) are.status are.ids x place (Failed f)
        (subst (λ ls. Contains ls (StatusLine x place (Failed f))) are.lines_are printed) in
        failed_by d sel x (are.status x) f (are.each x found.0) found.1

    printed_of : (y : Id) → HasFailed (install_judging d.setting d.survivors) d.kept y → Contains are.ids y
    printed_of y failed = elim (in_or_not are.ids y) [
      | inl is ↦ is
      | inr unprinted ↦ absurd (failure_stably (install_judging d.setting d.survivors) d.kept
          (asked d.setting d.survivors) (λ x z kind needs. needs.asks) y
          (λ made. unprinted (are.all y (Failed made.0) (IsFailed made.0 failed.cand failed.not_kept made.1))))
    ]

    line_of : (y : Id) → HasFailed (install_judging d.setting d.survivors) d.kept y
        → (h : Failure) × HasFailedLine lines y h × FailedBy d sel y h
    line_of y failed =
        let is = printed_of y failed in
        let has = status_failed d sel (sound g zone related sel bypass date d decides) y (are.status y) (are.each y is)
        failed.cand failed.not_kept in (
          has.0,
          (
            place_of d.setting.global y,
            subst (λ ls. Contains ls (StatusLine y (place_of d.setting.global y) (Failed has.0))) (sym are.lines_are)
                (subst (λ s. Contains (map (λ x. StatusLine x (place_of d.setting.global x) (are.status x)) are.ids)
                (StatusLine y (place_of d.setting.global y) s)) has.1
                (in_map (λ x. StatusLine x (place_of d.setting.global x) (are.status x)) are.ids y is)),
          ),
          failed_by d sel y (are.status y) has.0 (are.each y is) has.1,
        )

-- ---- RESTORE

pub needs_applied : (r : Restoring) (listed : Id → Bool) (x z : Id) (kind : NeedKind) → NeedsInRestore r listed x kind z
    → Contains (applied_ids r.zone) z
needs_applied r listed x z need.Elem needs = in_applied_ids r.zone z needs.1.applied
needs_applied r listed x z need.Dep needs = in_applied_ids r.zone z needs.1.applied
needs_applied r listed x z need.Fmid needs = absurd needs
needs_applied r listed x z need.Pre needs = absurd needs
needs_applied r listed x z need.Req needs = absurd needs
needs_applied r listed x z need.Ifreq needs = absurd needs
needs_applied r listed x z need.HoldError needs = absurd needs
needs_applied r listed x z need.Orphan needs = absurd needs

module _ (r : Restoring) (ids kept : List Id) where
  -- x failed, by this failure
  abbrev RestoreFailedBy : Id → Failure → Type 0
  RestoreFailedBy x f = HasFailed (restore_judging r ids) kept x × IsFailure (restore_judging r ids) kept x f

  restore_failed_by : (x : Id) (s : Status) (f : Failure) → HasRestoreStatus r ids kept x s → s ≡ Failed f
      → RestoreFailedBy x f
  restore_failed_by x s f (IsBack k) same = absurd (cc same)
  restore_failed_by x s f (StaysOn h c off why) same =
      let is : h ≡ f = cc same in (
        record { cand = c; not_kept = off },
        subst (λ f. IsFailure (restore_judging r ids) kept x f) is why,
      )
  restore_failed_by x s f (WasNotOn listed off) same = absurd (cc same)

  restore_status_failed : (x : Id) (s : Status) → HasRestoreStatus r ids kept x s
      → Contains (restore_candidates r ids) x → (¬ Contains kept x) → (h : Failure) × (s ≡ Failed h)
  restore_status_failed x s (IsBack k) cand out = absurd (out k)
  restore_status_failed x s (StaysOn h c off why) cand out = (h, refl)
  restore_status_failed x s (WasNotOn listed off) cand out = absurd (off cand)

pub restore_caused : (g : Global) (zone accepted : Zone) (what : RestoreList) (new : Zone) (lines : List Line)
    (is : RestoresListed g zone accepted what new lines) (x : Id) (f : Failure) → HasFailedLine lines x f
    → IsCaused (restore_judging is.setting is.ids) is.kept lines f
restore_caused g zone accepted what new lines is x f (place, printed) = record {
  some = names_causer (restore_judging r is.ids) is.kept (λ x kind. applied_ids r.zone) (needs_applied r (is_in is.ids))
      (λ x of. of.cand) is.members x f by.0 by.1;
  each = λ y causer.
      let of : IsCauser (restore_judging r is.ids) is.kept x y = (by.1.causers y).0 causer in
      let line = line_of y of.root.failed in (
        line.0,
        line.1,
        cause_of (restore_judging r is.ids) is.kept y line.0 (λ x of passes. record { cand = of; passes = passes })
            line.2.1 of.root,
      );
}
  where
    r : Restoring
    r = is.setting

    by : RestoreFailedBy r is.ids is.kept x f
    by =
        let found = line_in (place_of g) is.status is.ids x place (Failed f)
        (subst (λ ls. Contains ls (StatusLine x place (Failed f))) is.lines_are printed) in
        restore_failed_by r is.ids is.kept x (is.status x) f (is.each x found.0) found.1

    line_of : (y : Id) → HasFailed (restore_judging r is.ids) is.kept y
        → (h : Failure) × HasFailedLine lines y h × RestoreFailedBy r is.ids is.kept y h
    line_of y failed =
        let there = (filter_in (is_applied r.zone) is.ids y failed.cand).0 in
        let has = restore_status_failed r is.ids is.kept y (is.status y) (is.each y there) failed.cand
        failed.not_kept in (
          has.0,
          (
            place_of g y,
            subst (λ ls. Contains ls (StatusLine y (place_of g y) (Failed has.0))) (sym is.lines_are)
                (subst (λ s. Contains (map (λ x. StatusLine x (place_of g x) (is.status x)) is.ids)
                (StatusLine y (place_of g y) s)) has.1
                (in_map (λ x. StatusLine x (place_of g x) (is.status x)) is.ids y there)),
          ),
          restore_failed_by r is.ids is.kept y (is.status y) has.0 (is.each y there) has.1,
        )
