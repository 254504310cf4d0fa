use Rattle.smpe_jobs.proofs.Found.{next_open_finds_holds}
use Rattle.smpe_jobs.proofs.law.next_open_finds.Goals as goal

pub returns : goal.returns
returns g c = next_open_finds_holds g.S.Store g.T.Store
