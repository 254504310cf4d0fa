use Rattle.why_laws.proofs.ReasonsWitness.{reasons_witness}
use Rattle.why_laws.proofs.reasons.reasons_witness.Goals as goal

pub returns : goal.returns
returns c = reasons_witness
