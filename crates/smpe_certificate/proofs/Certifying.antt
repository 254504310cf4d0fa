-- The certificate of a decision, from what is judged and its facts by numbers.
use Rattle.std.proofs.Common.{◌≡◌, List, Option, sym, subst, Contains}
use Rattle.std.specs.Prelude.{◌↔◌}
use Rattle.terms.specs.declared.codes.Test.{Test}
use Rattle.terms.specs.declared.codes.Test.TheVariants.{HeldBySystem, HeldByUser, ForbiddenByNpre, OwnedByAnother}
use Rattle.terms.specs.declared.codes.Test.TheVariants.{Regression, NothingToUpdate, NotInTarget, ChainDeleted}
use Rattle.terms.specs.declared.codes.Test.TheVariants.{InClash, AlreadyAccepted, HasDelete, OtherLevel, SeveralFit}
use Rattle.terms.specs.Types.{Text, Id, Global, Zone, Bypass, Selection}
use Rattle.terms.specs.Tests.{Setting, Fails, FailsAlone, IsEligible}
use Rattle.terms.specs.Needs.{Needs, Serves}
use Rattle.terms.specs.Candidates.{AreCandidates}
use Rattle.terms.specs.Judged.{setting, install_judging}
use Rattle.terms.specs.Kept.{StaysKept}
use Rattle.judge_system.specs.declared.judged.Judged.{Judged}
use Rattle.judge_system.specs.Judged.{IsJudged}
use Rattle.judge.specs.Installs.{IsInstallJudged}
use Rattle.smpe_certificate.specs.Facts.{Input, Certificate}
use Rattle.smpe_certificate.specs.Certificate.{IsCertificate}
use Rattle.smpe_certificate.specs.Text.{certificate_text}
use Rattle.smpe_certificate.specs.ByNumber.{IsByNumber}
use Rattle.smpe_certificate.specs.Certified.{IsCertified}
use Rattle.smpe_certificate.proofs.Translating.{certificate_is, kept_stays}

-- a candidate that fails no test is eligible
passes_all : (s : Setting) (x : Id) → IsEligible s x ↔ (Contains s.cands x × ((t : Test) → ¬ Fails s x t))
passes_all s x = (
  λ e. (e.0.0.0, passes e),
  λ both. (((both.0, alone both.1), both.1 ChainDeleted), both.1 InClash),
)
  where
    passes : IsEligible s x → (t : Test) → ¬ Fails s x t
    passes e HeldBySystem = e.0.0.1 HeldBySystem
    passes e HeldByUser = e.0.0.1 HeldByUser
    passes e ForbiddenByNpre = e.0.0.1 ForbiddenByNpre
    passes e OwnedByAnother = e.0.0.1 OwnedByAnother
    passes e Regression = e.0.0.1 Regression
    passes e NothingToUpdate = e.0.0.1 NothingToUpdate
    passes e NotInTarget = e.0.0.1 NotInTarget
    passes e ChainDeleted = e.0.1
    passes e InClash = e.1
    passes e AlreadyAccepted = λ f. f
    passes e HasDelete = λ f. f
    passes e OtherLevel = λ f. f
    passes e SeveralFit = e.0.0.1 SeveralFit

    alone : ((t : Test) → ¬ Fails s x t) → (t : Test) → ¬ FailsAlone s x t
    alone none HeldBySystem = none HeldBySystem
    alone none HeldByUser = none HeldByUser
    alone none ForbiddenByNpre = none ForbiddenByNpre
    alone none OwnedByAnother = none OwnedByAnother
    alone none Regression = none Regression
    alone none NothingToUpdate = none NothingToUpdate
    alone none NotInTarget = none NotInTarget
    alone none ChainDeleted = λ f. f
    alone none InClash = λ f. f
    alone none AlreadyAccepted = λ f. f
    alone none HasDelete = λ f. f
    alone none OtherLevel = λ f. f
    alone none SeveralFit = none SeveralFit

pub certified : (g : Global) (zone : Zone) (related : Option Zone) (sel : Selection) (bypass : Bypass)
    (inputs : List Input) (cands : List Id) (j : Judged) (c : Certificate) (text : Text)
    → AreCandidates g zone sel cands → IsInstallJudged (setting g zone related cands bypass) j → IsByNumber j c
    → text ≡ certificate_text inputs c → IsCertified g zone related sel bypass inputs text
certified g zone related sel bypass inputs cands j c text candidates judged facts spelled =
    let s = setting g zone related cands bypass in
    let judging = install_judging s judged.survivors in
    let same : j.ids.keys ≡ cands = judged.judged.ids_are in
    let is = subst (λ ids. IsJudged (Fails s) (IsEligible s) (Needs s judged.survivors) (Serves s.choice) ids j)
    (sym same) judged.judged in
    let passes : (x : Id) → IsEligible s x ↔ (Contains j.ids.keys x × ((t : Test) → ¬ Fails s x t)) =
    λ x. subst (λ ids. IsEligible s x ↔ (Contains ids x × ((t : Test) → ¬ Fails s x t))) (sym same)
    (passes_all s x) in
    record {
      cands = cands;
      candidates = candidates;
      survivors = judged.survivors;
      are_survivors = judged.are_survivors;
      facts = c;
      kept = record {
        survivors = judged.survivors;
        are_survivors = judged.are_survivors;
        rising = facts.rising;
        members = λ x. subst (λ ids. Contains c.kept x ↔ StaysKept (record judging { cands = ids }) x) same
            (kept_stays judging j is passes c facts x);
      };
      is = subst (λ ids. IsCertificate (record judging { cands = ids }) c.kept c) same
          (certificate_is judging j is passes c facts);
      text_is = spelled;
    }
