-- The laws of certificates.
use Rattle.std.specs.Prelude.{List}
use Rattle.terms.specs.Types.{Id}
use Rattle.terms.specs.Lookups.{is_in}
use Rattle.terms.specs.Tests.{Setting}
use Rattle.terms.specs.Judged.{install_judging}
use Rattle.solve.specs.Greatest.{IsGreatestSet}
use Rattle.smpe_certificate.specs.Facts.{Certificate}
use Rattle.smpe_certificate.specs.Accepted.{IsAccepted, stated}
use Rattle.smpe_certificate.specs.Certificate.{IsCertificate}

-- a certificate of what an APPLY or ACCEPT decides is accepted
abbrev pub CertificateAccepted : Type 0
CertificateAccepted = (s : Setting) (survivors kept : List Id) (c : Certificate)
    → IsCertificate (install_judging s survivors) kept c → IsAccepted c

-- what an accepted certificate keeps is the greatest set that supports itself in the system that it states
abbrev pub AcceptedIsGreatest : Type 0
AcceptedIsGreatest = (c : Certificate) → IsAccepted c → IsGreatestSet (stated c) (is_in c.kept)
