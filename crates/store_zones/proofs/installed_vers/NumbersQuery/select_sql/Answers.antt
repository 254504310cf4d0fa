use Rattle.store_zones.proofs.Selects.{numbers}
use Rattle.store_zones.proofs.Entries.{exact_number}
use Rattle.store_zones.proofs.installed_vers.NumbersQuery.select_sql.Goals as goal

pub returns : goal.returns
returns c = record { reads = numbers.reads; there = numbers.there; selects = numbers.selects; exact = exact_number }
