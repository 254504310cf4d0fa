use Rattle.store_zones.proofs.zone_rows.zone_items.Goals as goal

pub returns-clause-same : goal.returns-clause-same
returns-clause-same g c = rw (← c.in_ok-items_of_rows.ensures) c.into_table.ensures.same

pub returns-clause-none : goal.returns-clause-none
returns-clause-none g c bad xs same rises = c.into_table.ensures.none bad xs (rw c.in_ok-items_of_rows.ensures same)
    rises
