use Rattle.store_zones.proofs.Selects.{elements}
use Rattle.store_zones.proofs.Elements.{exact_element}
use Rattle.store_zones.proofs.element.ElementsQuery.select_sql.Goals as goal

pub returns : goal.returns
returns c = record { reads = elements.reads; there = elements.there; selects = elements.selects; exact = exact_element }
