use Rattle.smpe_jobs.proofs.Closing.{ends_closed_holds}
use Rattle.smpe_jobs.proofs.law.ends_closed.Goals as goal

pub returns : goal.returns
returns g c = ends_closed_holds g.S.Store
