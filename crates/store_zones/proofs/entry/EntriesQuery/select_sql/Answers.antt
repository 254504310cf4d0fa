use Rattle.store_zones.proofs.Selects.{entries}
use Rattle.store_zones.proofs.Entries.{exact_entry}
use Rattle.store_zones.proofs.entry.EntriesQuery.select_sql.Goals as goal

pub returns : goal.returns
returns c = record { reads = entries.reads; there = entries.there; selects = entries.selects; exact = exact_entry }
