-- What APPLY and ACCEPT decide to install has its forms, where the received SYSMODs and the zone have theirs.
use Rattle.std.proofs.Common.{◌≡◌, ◌≢◌, true, not, List, [], filter, Option, None, Some, All, Contains, IsTrue}
use Rattle.std.proofs.Common.{inr, refl, sym, ◌∙◌, ap, subst, get_or, true≢false, arith}
use Rattle.std.specs.Prelude.{◌↔◌}
use Rattle.std.specs.Option.{option_map_or}
use Rattle.std.specs.Str.{bytes_eq}
use Rattle.std.proofs.lemmas.Bool.{and_parts}
use Rattle.std.proofs.lemmas.List.Elements.{All-contains_itself}
use Rattle.terms.specs.Types.{Text, Id, Sysmod, Global, Zone, Bypass, Selection}
use Rattle.terms.specs.Lookups.{is_nil, sysmod_of}
use Rattle.terms.specs.Choice.{counting, vers_of}
use Rattle.terms.specs.Over.{IsOver}
use Rattle.terms.specs.Candidates.{is_installable, is_open, IsCandidate}
use Rattle.terms.specs.Tests.{Setting, ShareElement, IsEligible}
use Rattle.terms.specs.Needs.{bypassed_ids}
use Rattle.terms.specs.Judged.{setting, IsKeptSet}
use Rattle.terms.specs.Forms.{IsId, IsDottedDate}
use Rattle.store_schema.specs.Forms.{HasSysmodForms, HasZoneForms}
use Rattle.machine.specs.Installing.{Decision, IsDecision}
use Rattle.machine_laws.proofs.OperandForms.{HasVers, sysmod_forms, ver_forms, bypassed_form}
use Rattle.machine_laws.proofs.GivenForms.{HasInstallForms}
use Rattle.machine_laws.proofs.Numbers.{number_form}

-- The open ids are a closed pair by themselves, so each candidate is open.
pub candidate_open : (g : Global) (zone : Zone) (sel : Selection) (x : Id) → IsCandidate g zone sel x
    → IsTrue (is_open g zone sel x)
candidate_open g zone sel x candidate = candidate (is_open g zone sel) (is_open g zone sel) (record {
  start = λ y starts. (and_parts _ _ starts).0;
  growing_start = λ y starts. (and_parts _ _ (and_parts _ _ starts).0).0;
  part = λ y is. is;
  only_open = λ y is. is;
  grown = λ y z is brings. brings.0;
})

-- what may be installed is received
installable_form : (g : Global) → All HasSysmodForms g.sysmods → (zone : Zone) (x : Id)
    → IsTrue (is_installable g zone x) → IsId x
installable_form g sysmods zone x ok = by (sysmod_of g x) refl
  where
    has_ver : not (is_nil (vers_of g zone.srel x)) ≡ true
    has_ver = (and_parts _ _ (and_parts _ _ ok).0).0

    by : (s : Option Sysmod) → sysmod_of g x ≡ s → IsId x
    by None at = absurd (true≢false (sym has_ver ∙ ap (λ s.
        not (is_nil (option_map_or (λ s. filter (λ v. bytes_eq v.srel zone.srel) s.vers) s []))) at))
    by (Some s) at = let has = sysmod_forms g sysmods x s at in subst IsId has.0 has.1.id

-- what is kept is eligible, and so a candidate
kept_eligible : (s : Setting) (kept : List Id) → IsKeptSet s kept → (x : Id) → Contains kept x → IsEligible s x
kept_eligible s kept is x there = let stays = (is.members x).0 there in stays.1.eligible x stays.2

-- InClash: no two eligible ids clash
eligible_ordered : (s : Setting) (x y : Id) → IsEligible s x → IsEligible s y → x ≢ y → ShareElement s.global x y
    → ¬ ((¬ IsOver s.choice x y) × (¬ IsOver s.choice y x))
eligible_ordered s x y of_x of_y other share apart = of_x.1 (of_x.0, (y, of_y.0, other, inr (inr (share, inr apart))))

module _ (g : Global) (sysmods : All HasSysmodForms g.sysmods) (zone : Zone) (forms : HasZoneForms zone)
    (related : Option Zone) (sel : Selection) (bypass : Bypass) (date : Text) (dated : IsDottedDate date)
    (d : Decision) (decides : IsDecision g zone related sel bypass date d) where
  decided : Setting
  decided = setting g zone related decides.cands bypass

  pub decision_forms : HasInstallForms d.installing
  unfolding decided
  decision_forms = subst HasInstallForms (sym decides.installing) (record {
    sysmods = sysmods;
    vers = vers;
    zone = forms;
    kept = λ k x below. kept_form (get_or d.kept k x) (All-contains_itself d.kept k x below);
    numbers = λ x. (omega arith, number_form g sysmods zone forms decides.cands x);
    bypassed = λ x z there. bypassed_form decided vers x z ((are_bypassed x z).0 there).1;
    date = dated;
    ordered = λ x y of_x of_y. eligible_ordered decided x y (eligible x of_x) (eligible y of_y);
  })
    where
      vers : HasVers (counting g zone decides.cands)
      vers = ver_forms g sysmods zone decides.cands

      eligible : (x : Id) → Contains d.kept x → IsEligible decided x
      eligible = kept_eligible decided d.kept (subst (λ s. IsKeptSet s d.kept) decides.setting decides.kept)

      kept_form : (x : Id) → Contains d.kept x → IsId x
      kept_form x there =
          let candidate = (decides.candidates.members x).0 (eligible x there).0.0.0 in
          let opened = candidate_open g zone sel x candidate in
          installable_form g sysmods zone x (and_parts _ _ opened).0

      are_bypassed : (x z : Id) → Contains decides.bypassed (x, z)
          ↔ (Contains d.kept x × Contains (bypassed_ids decided x) z)
      are_bypassed = subst (λ s. (x z : Id) → Contains decides.bypassed (x, z)
          ↔ (Contains d.kept x × Contains (bypassed_ids s x) z)) decides.setting decides.are_bypassed
