use Rattle.store_zones.proofs.Selects.{zones}
use Rattle.store_zones.proofs.Heads.{exact_head}
use Rattle.store_zones.proofs.head.AllHeadsQuery.select_sql.Goals as goal

pub returns : goal.returns
returns c = record { reads = zones.reads; there = zones.there; selects = zones.selects; exact = exact_head }
