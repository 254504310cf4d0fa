use Rattle.store_sysmods.proofs.Selects.{heads}
use Rattle.store_sysmods.proofs.Exact.{exact_head}
use Rattle.store_sysmods.proofs.head.HeadsQuery.select_sql.Goals as goal

pub returns : goal.returns
returns c = record { reads = heads.reads; there = heads.there; selects = heads.selects; exact = exact_head }
