use Rattle.store_sysmods.proofs.Selects.{vers}
use Rattle.store_sysmods.proofs.Exact.{exact_ver}
use Rattle.store_sysmods.proofs.ver.VersQuery.select_sql.Goals as goal

pub returns : goal.returns
returns c = record { reads = vers.reads; there = vers.there; selects = vers.selects; exact = exact_ver }
