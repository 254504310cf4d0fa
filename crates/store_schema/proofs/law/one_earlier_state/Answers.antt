use Rattle.store_schema.proofs.OneState.{one_earlier_state}
use Rattle.store_schema.proofs.law.one_earlier_state.Goals as goal

pub returns : goal.returns
returns c = one_earlier_state
