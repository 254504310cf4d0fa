use Rattle.store_sysmods.proofs.Selects.{more_ifs}
use Rattle.store_sysmods.proofs.Exact.{exact_more_if}
use Rattle.store_sysmods.proofs.moreif.MoreIfsQuery.select_sql.Goals as goal

pub returns : goal.returns
returns c = record { reads = more_ifs.reads; there = more_ifs.there; selects = more_ifs.selects; exact = exact_more_if }
