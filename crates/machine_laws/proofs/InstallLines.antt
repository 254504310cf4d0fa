-- The lines of APPLY and ACCEPT are determined, and so is all that these come to.
use Rattle.std.proofs.Common.{◌≡◌, ◌∙◌, List, Option, None, Some, Contains, IsTrue, map, refl, sym}
use Rattle.std.proofs.Common.{ap, subst}
use Rattle.std.specs.Prelude.{◌||◌, ◌++◌, not}
use Rattle.std.proofs.lemmas.Bool.{or_right}
use Rattle.std.proofs.lemmas.Option.{same_Some}
use Rattle.terms.specs.declared.not_chosen.NotChosen.{NotChosen}
use Rattle.terms.specs.Types.{Text, Id, Global, Zone, Bypass, Selection}
use Rattle.terms.specs.Lookups.{is_in}
use Rattle.terms.specs.Global.{IsGlobal}
use Rattle.terms.specs.Candidates.{is_open, not_chosen}
use Rattle.terms.specs.Tests.{Setting}
use Rattle.terms.specs.Judged.{install_judging}
use Rattle.terms.specs.Install.{Installation, TakesEffect}
use Rattle.terms.proofs.RisingAlike.{rises_only}
use Rattle.machine.specs.Outcome.{Status, Failed, Line, StatusLine}
use Rattle.machine.specs.Receiving.{place_of}
use Rattle.machine.specs.Installing.{Decision, IsDecision, HasStatus, IsInstalled, IsSuperseded, IsFailed, IsNotChosen}
use Rattle.machine.specs.Installing.{not_chosen_status, AreInstallLines, InstallsSelected}
use Rattle.change.proofs.KeptTogether.{kept_eligible}
use Rattle.machine_laws.proofs.Decisions.{candidate_open}
use Rattle.machine_laws.proofs.Decided.{with_bypassed, decision_only}
use Rattle.machine_laws.proofs.FailureAnswers.{failure_only}
use Rattle.machine_laws.proofs.Installed.{zone_only}
use Rattle.machine_laws.proofs.SamePairs.{effect_with}
use Rattle.terms.proofs.Lists.{map_alike}
use Rattle.std.proofs.lemmas.Cmp.{nat_list_cmp_total}

-- no reason is printed of what is open
open_unnamed : (g : Global) (zone : Zone) (sel : Selection) (x : Id) → IsTrue (is_open g zone sel x)
    → not_chosen g zone sel x ≡ None
unfolding not_chosen
open_unnamed g zone sel x opened =
    rw (or_right (not (is_in (sel.select ++ sel.group) x) || is_in sel.exclude x) (is_open g zone sel x) opened)

-- What a decision has for its lines: the same ids are kept and installed, they are candidates, and these are open.
pub record IsSound (d : Decision) (sel : Selection) : Type 0 where
  pub installs : d.installing.kept ≡ d.kept
  pub within : (x : Id) → Contains d.kept x → Contains d.setting.cands x
  pub unnamed : (x : Id) → Contains d.setting.cands x → not_chosen d.setting.global d.setting.zone sel x ≡ None

pub sound : (g : Global) (zone : Zone) (related : Option Zone) (sel : Selection) (bypass : Bypass) (date : Text)
    (d : Decision) → IsDecision g zone related sel bypass date d → IsSound d sel
sound g zone related sel bypass date d decides = record {
  installs = ap (λ (i : Installation). i.kept) decides.installing;
  within = λ x is. (kept_eligible d.setting decides.kept.survivors d.kept decides.kept.members x is).0.0.0;
  unnamed = subst (λ (s : Setting). (x : Id) → Contains s.cands x → not_chosen s.global s.zone sel x ≡ None)
      (sym decides.setting)
      (λ x is. open_unnamed g zone sel x (candidate_open g zone sel x ((decides.candidates.members x).0 is)));
}

module _ (d : Decision) (sel : Selection) (is : IsSound d sel) where
  pub in_kept : (x : Id) → TakesEffect d.installing x → Contains d.kept x
  in_kept x effect = subst (λ ids. Contains ids x) is.installs effect.kept

  -- what is kept is not one of those that are named in vain
  pub chosen : {A : Type 0} (x : Id) (why : NotChosen) → Contains d.setting.cands x
      → not_chosen d.setting.global d.setting.zone sel x ≡ Some why → A
  chosen x why cand at = absurd (cc (sym (is.unnamed x cand) ∙ at))

  status_only : (x : Id) (s t : Status) → HasStatus d sel x s → HasStatus d sel x t → s ≡ t
  status_only x s t (IsInstalled e) (IsInstalled e') = refl
  status_only x s t (IsInstalled e) (IsSuperseded k other) = absurd (other e)
  status_only x s t (IsInstalled e) (IsFailed f c out why) = absurd (out (in_kept x e))
  status_only x s t (IsInstalled e) (IsNotChosen why at) = chosen x why (is.within x (in_kept x e)) at
  status_only x s t (IsSuperseded k other) (IsInstalled e) = absurd (other e)
  status_only x s t (IsSuperseded k other) (IsSuperseded k' other') = refl
  status_only x s t (IsSuperseded k other) (IsFailed f c out why) = absurd (out k)
  status_only x s t (IsSuperseded k other) (IsNotChosen why at) = chosen x why (is.within x k) at
  status_only x s t (IsFailed f c out why) (IsInstalled e) = absurd (out (in_kept x e))
  status_only x s t (IsFailed f c out why) (IsSuperseded k other) = absurd (out k)
  status_only x s t (IsFailed f c out why) (IsFailed f' c' out' why') =
      ap (λ f. Failed f) (failure_only (install_judging d.setting d.survivors) d.kept x f f' why why')
  status_only x s t (IsFailed f c out why) (IsNotChosen reason at) = chosen x reason c at
  status_only x s t (IsNotChosen why at) (IsInstalled e) = chosen x why (is.within x (in_kept x e)) at
  status_only x s t (IsNotChosen why at) (IsSuperseded k other) = chosen x why (is.within x k) at
  status_only x s t (IsNotChosen why at) (IsFailed f c out reason) = chosen x why c at
  status_only x s t (IsNotChosen why at) (IsNotChosen why' at') =
      ap not_chosen_status (same_Some why why' (sym at ∙ at'))

  lines_only : (lines more : List Line) → AreInstallLines d sel lines → AreInstallLines d sel more → lines ≡ more
  lines_only lines more are are' =
      let ids = rises_only nat_list_cmp_total (λ x. x) are.ids are'.ids are.rising are'.rising
      (λ x is. are'.all x (are.status x) (are.each x is)) (λ x is. are.all x (are'.status x) (are'.each x is)) in
      are.lines_are
      ∙ map_alike _ (λ x. StatusLine x (place_of d.setting.global x) (are'.status x)) are.ids
      (λ x is. ap (StatusLine x (place_of d.setting.global x)) (status_only x (are.status x) (are'.status x)
      (are.each x is) (are'.each x (subst (λ ids. Contains ids x) ids is))))
      ∙ ap (map (λ x. StatusLine x (place_of d.setting.global x) (are'.status x))) ids ∙ sym are'.lines_are

-- The lines are those of the decision with its bypassed requisites in any other list.
status_with : (d : Decision) (pairs : List (Id × Id)) (sel : Selection) (x : Id) (s : Status) → HasStatus d sel x s
    → HasStatus (with_bypassed d pairs) sel x s
status_with d pairs sel x s (IsInstalled e) = IsInstalled (effect_with d.installing pairs x e)
status_with d pairs sel x s (IsSuperseded k other) =
    IsSuperseded k (λ e. other (effect_with (with_bypassed d pairs).installing d.installing.bypassed x e))
status_with d pairs sel x s (IsFailed f c out why) = IsFailed f c out why
status_with d pairs sel x s (IsNotChosen why at) = IsNotChosen why at

lines_with : (d : Decision) (pairs : List (Id × Id)) (sel : Selection) (lines : List Line) → AreInstallLines d sel lines
    → AreInstallLines (with_bypassed d pairs) sel lines
lines_with d pairs sel lines are = record {
  ids = are.ids;
  rising = are.rising;
  status = are.status;
  lines_are = are.lines_are;
  each = λ x is. status_with d pairs sel x (are.status x) (are.each x is);
  all = λ x s has. are.all x s (status_with (with_bypassed d pairs) d.installing.bypassed sel x s has);
}

-- So APPLY and ACCEPT make one zone and print one list of lines.
pub installs_only : (g : Global) → IsGlobal g → (zone : Zone) (related : Option Zone) (sel : Selection)
    (bypass : Bypass) (date : Text) (a b : Zone) (lines more : List Line)
    → InstallsSelected g zone related sel bypass date a lines → InstallsSelected g zone related sel bypass date b more
    → (a ≡ b) × (lines ≡ more)
installs_only g is_global zone related sel bypass date a b lines more is is' =
    let d = is.decision in
    let e = is'.decision in
    let same = decision_only g zone related sel bypass date d e is.decides is'.decides in (
      zone_only g is_global zone related sel bypass date d e is.decides is'.decides a b is.installs is'.installs,
      lines_only e sel (sound g zone related sel bypass date e is'.decides) lines more
          (subst (λ e. AreInstallLines e sel lines) (sym same.is)
          (lines_with d e.installing.bypassed sel lines is.lines_are)) is'.lines_are,
    )
