use Rattle.stream_laws.proofs.NoRegression.{never_clashes_by_element}
use Rattle.stream_laws.proofs.laws.never_clashes_by_element.Goals as goal

pub returns : goal.returns
returns c = never_clashes_by_element
