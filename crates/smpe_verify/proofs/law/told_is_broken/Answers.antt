use Rattle.smpe_verify.proofs.LawLemmas.{told_broken}
use Rattle.smpe_verify.proofs.law.told_is_broken.Goals as goal

pub returns : goal.returns
returns c = told_broken
