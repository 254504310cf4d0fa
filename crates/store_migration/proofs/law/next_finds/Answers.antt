use Rattle.store_migration.proofs.Migrating.{next_migration, next_open}
use Rattle.store_migration.proofs.law.next_finds.Goals as goal

pub returns-clause-migration : goal.returns-clause-migration
returns-clause-migration g c = next_migration g.S.Store g.T.Store

pub returns-clause-open : goal.returns-clause-open
returns-clause-open g c = next_open g.S.Store g.T.Store
