use Rattle.smpe_verify.proofs.LawLemmas.{verified_closed}
use Rattle.smpe_verify.proofs.law.verified_is_closed.Goals as goal

pub returns : goal.returns
returns c = verified_closed
