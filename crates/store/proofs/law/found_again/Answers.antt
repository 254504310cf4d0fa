use Rattle.store.proofs.Reopening.{found_again}
use Rattle.store.proofs.law.found_again.Goals as goal

pub returns : goal.returns
returns g c = found_again g.S.Store g.T.Store
