use Rattle.store_sysmods.proofs.Selects.{sources}
use Rattle.store_sysmods.proofs.Exact.{exact_source}
use Rattle.store_sysmods.proofs.source.SourcesQuery.select_sql.Goals as goal

pub returns : goal.returns
returns c = record { reads = sources.reads; there = sources.there; selects = sources.selects; exact = exact_source }
