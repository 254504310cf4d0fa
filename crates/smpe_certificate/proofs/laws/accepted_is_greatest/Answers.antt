use Rattle.smpe_certificate.proofs.Accepting.{certificate_accepted, accepted_is_greatest}
use Rattle.smpe_certificate.proofs.laws.accepted_is_greatest.Goals as goal

pub returns-clause-accepted : goal.returns-clause-accepted
returns-clause-accepted c = certificate_accepted

pub returns-clause-greatest : goal.returns-clause-greatest
returns-clause-greatest c = accepted_is_greatest
