use Rattle.std.proofs.Common.{refl, subst, sym}
use Rattle.store_migration.proofs.Migrating.{is_migrated, is_unmigrated}
use Rattle.store_migration.specs.Migrated.{Migrated}
use Rattle.store_migration.proofs.migration.migrate.Goals as goal

pub returns-in-Ok-clause-ok : goal.returns-in-Ok-clause-ok
returns-in-Ok-clause-ok g c =
    let new = c.migrate_tables.new.conn in
    subst (Migrated g.S.Store c.args.conn) (sym c.over.ensures)
    (is_migrated g.S.Store c.args.conn new (c.if-prove.ensures.settled refl) c.in-Ok.field-0
    (g.met.S.Store.settled new.store) (rw c.in-Ok.is at c.migrate_tables.ensures))

pub returns-in-Err-clause-err : goal.returns-in-Err-clause-err
returns-in-Err-clause-err g c =
    is_unmigrated g.S.Store c.args.conn c.migrate_tables.new.conn (c.if-prove.ensures.settled refl)
    c.migrate_tables.result
    c.in-Err.error (g.met.S.Store.settled c.args.conn.store) c.in-Err.is c.migrate_tables.ensures
