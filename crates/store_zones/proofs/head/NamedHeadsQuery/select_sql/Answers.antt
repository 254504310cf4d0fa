use Rattle.store_zones.proofs.Selects.{named}
use Rattle.store_zones.proofs.Heads.{exact_head}
use Rattle.store_zones.proofs.head.NamedHeadsQuery.select_sql.Goals as goal

pub returns : goal.returns
returns c = record { reads = named.reads; there = named.there; selects = named.selects; exact = exact_head }
