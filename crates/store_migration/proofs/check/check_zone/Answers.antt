use Rattle.store_migration.proofs.check.check_zone.Goals as goal

pub returns-in-Some-clause-rows : goal.returns-in-Some-clause-rows
returns-in-Some-clause-rows g c clean contents held = (
  c.in-Some._zone,
  rw c.in-Some.is at (c.in_ok-_zone.ensures.rows clean contents held),
)
