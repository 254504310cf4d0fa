use Rattle.store_rows.proofs.InsideLemmas.{if_ok}
use Rattle.store_schema.proofs.UnderEach.{rows_under, stands_rows, stands_inventory}
use Rattle.sysmods_values.proofs.KeyOrders.{holds_rise}
use Rattle.store_sysmods.proofs.HoldLists.{holds_formed, holds_rows}
use Rattle.store_sysmods.proofs.hold.load_holds.Goals as goal

pub returns-clause-rows : goal.returns-clause-rows
returns-clause-rows g c clean r contents was = c.load_sorted.ensures.found clean r tt contents was

pub returns-clause-found : goal.returns-clause-found
returns-clause-found g c clean r i stands =
    let inventory = stands_inventory r i _ stands in
    if_ok c.load_sorted.result _ _ (λ holds only.
    only i.global.holds (holds_formed i inventory) ((holds_rise i.global.holds).1 inventory.global.holds)
    (holds_rows r i)) (c.load_sorted.ensures.only clean r tt (rows_under r i) (stands_rows r i _ stands))

pub returns-clause-no_rows : goal.returns-clause-no_rows
returns-clause-no_rows g c clean bad r contents was holds forms same =
    c.load_sorted.ensures.none clean bad r tt contents was holds forms same

pub returns-clause-none : goal.returns-clause-none
returns-clause-none g c clean bad r i stands =
    c.load_sorted.ensures.none clean bad r tt (rows_under r i) (stands_rows r i _ stands) i.global.holds
    (holds_formed i (stands_inventory r i _ stands)) (holds_rows r i)

pub returns-clause-reads : goal.returns-clause-reads
returns-clause-reads g c r = c.load_sorted.ensures.reads r tt
