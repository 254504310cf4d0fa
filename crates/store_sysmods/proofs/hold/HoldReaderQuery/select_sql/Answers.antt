use Rattle.store_sysmods.proofs.Selects.{holds}
use Rattle.store_sysmods.proofs.HoldLists.{exact_hold}
use Rattle.store_sysmods.proofs.hold.HoldReaderQuery.select_sql.Goals as goal

pub returns : goal.returns
returns c = record { reads = holds.reads; there = holds.there; selects = holds.selects; exact = exact_hold }
