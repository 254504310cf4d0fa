use Rattle.store_sysmods.proofs.Selects.{elems}
use Rattle.store_sysmods.proofs.Exact.{exact_elem}
use Rattle.store_sysmods.proofs.elem.ElemsQuery.select_sql.Goals as goal

pub returns : goal.returns
returns c = record { reads = elems.reads; there = elems.there; selects = elems.selects; exact = exact_elem }
