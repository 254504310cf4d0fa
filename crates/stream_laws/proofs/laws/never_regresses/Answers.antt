use Rattle.stream_laws.proofs.NoRegression.{never_regresses}
use Rattle.stream_laws.proofs.laws.never_regresses.Goals as goal

pub returns : goal.returns
returns c = never_regresses
