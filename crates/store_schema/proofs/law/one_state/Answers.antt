use Rattle.store_schema.proofs.OneState.{one_state}
use Rattle.store_schema.proofs.law.one_state.Goals as goal

pub returns : goal.returns
returns c = one_state
