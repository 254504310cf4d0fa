use Rattle.store_sysmods.proofs.Selects.{heads}
use Rattle.store_sysmods.proofs.Exact.{exact_bare}
use Rattle.store_sysmods.proofs.head.BareHeadsQuery.select_sql.Goals as goal

pub returns : goal.returns
returns c = record { reads = heads.reads; there = heads.there; selects = heads.selects; exact = exact_bare }
