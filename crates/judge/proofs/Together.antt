-- What is kept of the judged candidates may be installed together.
use Rattle.std.proofs.Common.{◌≡◌, false, List, [], Option, IsTrue, Contains, refl}
use Rattle.std.specs.Prelude.{All}
use Rattle.std.proofs.lemmas.Bool.{and_parts, not-true}
use Rattle.std.proofs.lemmas.List.Elements.{All-contains}
use Rattle.terms.specs.Types.{Id, Global, Zone, Bypass}
use Rattle.terms.specs.Lookups.{IsZone, is_applied, is_supplied}
use Rattle.terms.specs.Candidates.{is_installable}
use Rattle.terms.specs.Choice.{counting}
use Rattle.terms.specs.Global.{IsGlobal}
use Rattle.terms.specs.Judged.{setting}
use Rattle.terms.specs.Needs.{Needs, Serves}
use Rattle.terms.specs.Tests.{Setting, Fails, IsEligible}
use Rattle.sysmods.specs.Choices.{choice}
use Rattle.sysmods.specs.Overs.{AreOver}
use Rattle.judge_system.specs.declared.judged.Judged.{Judged}
use Rattle.judge_system.proofs.Judging.{decided_of}
use Rattle.change.specs.Together.{install_of}
use Rattle.change.proofs.KeptTogether.{install_over, changed_base, unsupplied}
use Rattle.judge.specs.Installs.{IsInstallJudged, KeepsTogether}

module _ (g : Global) (zone : Zone) (related : Option Zone) (cands : List Id) (bypass : Bypass)
    (installable : All (λ x. IsTrue (is_installable g zone x)) cands) (is_zone : IsZone zone)
    (is_global : IsGlobal g) where
  abbrev s : Setting
  s = setting g zone related cands bypass

  unapplied : (x : Id) → Contains cands x → is_applied zone x ≡ false
  unapplied x h =
      let may = All-contains (λ y. IsTrue (is_installable g zone y)) cands x installable h in
      unsupplied zone x (not-true (is_supplied zone x) (and_parts _ _ (and_parts _ _ may).0).1)

  pub keeps_together : (j : Judged) → IsInstallJudged s j → j.vers.global.now ≡ g
      → choice j.vers ≡ counting g zone cands → AreOver (choice j.vers) j.overs → KeepsTogether j zone
  keeps_together j is global chosen known flags kept failed are_kept by =
      let decided = decided_of (Fails s) (IsEligible s) (Needs s is.survivors) (Serves s.choice) cands j is.judged
      flags are_kept kept failed by in
      record {
        known = known;
        order = install_over s is.survivors kept decided.members is_zone is_global refl unapplied
            (install_of j zone kept []) (record { global = global; choice = chosen; zone = refl; kept = refl });
        base = λ date. changed_base s is.survivors kept decided.members is_zone is_global refl unapplied
            (install_of j zone kept date) (record { global = global; choice = chosen; zone = refl; kept = refl });
      }
