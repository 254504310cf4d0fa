use Rattle.store_sysmods.proofs.Selects.{ifs}
use Rattle.store_sysmods.proofs.Exact.{exact_if}
use Rattle.store_sysmods.proofs.ifreq.IfsQuery.select_sql.Goals as goal

pub returns : goal.returns
returns c = record { reads = ifs.reads; there = ifs.there; selects = ifs.selects; exact = exact_if }
