-- The certificate of an APPLY or ACCEPT.
use Rattle.std.specs.Prelude.{◌≡◌, List, Option}
use Rattle.terms.specs.Types.{Text, Id, Global, Zone, Bypass, Selection}
use Rattle.terms.specs.Tests.{AreSurvivors}
use Rattle.terms.specs.Candidates.{AreCandidates}
use Rattle.terms.specs.Judged.{setting, install_judging, IsKeptSet}
use Rattle.smpe_certificate.specs.Facts.{Input, Certificate}
use Rattle.smpe_certificate.specs.Certificate.{IsCertificate}
use Rattle.smpe_certificate.specs.Text.{certificate_text}

-- The text of a certificate of what is decided about the candidates of the selection. Its kept ids are the kept set.
pub record IsCertified (g : Global) (zone : Zone) (related : Option Zone) (sel : Selection) (bypass : Bypass)
    (inputs : List Input) (text : Text) : Type 0 where
  pub cands : List Id
  pub candidates : AreCandidates g zone sel cands
  pub survivors : List Id
  pub are_survivors : AreSurvivors (setting g zone related cands bypass) survivors
  pub facts : Certificate
  pub kept : IsKeptSet (setting g zone related cands bypass) facts.kept
  pub is : IsCertificate (install_judging (setting g zone related cands bypass) survivors) facts.kept facts
  pub text_is : text ≡ certificate_text inputs facts
