use Rattle.std.proofs.Common.{List, take, IsTrue}
use Rattle.sqlite.specs.Held.{state}
use Rattle.sqlite.specs.State.{HasCleanDisk}
use Rattle.store_rows.specs.declared.error.ReadError.TheVariants.{BadRow, Fault}
use Rattle.store_rows.specs.Reads.{OnlyReads}
use Rattle.store_rows.specs.Rows.{Contents, HasContents}
use Rattle.terms.specs.Types.{NamedZone}
use Rattle.store_schema.specs.Earlier.{schema_under}
use Rattle.store_zones.specs.Held.{HoldsHeads}
use Rattle.store_migration.proofs.Checking.{done, HoldsFirst}
use Rattle.store_migration.proofs.check.check_each_zone.Given as goal

-- the zones so far
abbrev pub invariant-loop-head : goal.invariant-loop-head
invariant-loop-head g l = record {
  reads : (HasCleanDisk (state g.S.Store l.fn.conn) → IsTrue (state g.S.Store l.fn.conn).is_open)
      → OnlyReads g.S.Store (schema_under l.schema) BadRow Fault l.fn.conn l.conn done;
  rows : (HasCleanDisk (state g.S.Store l.fn.conn) → IsTrue (state g.S.Store l.fn.conn).is_open)
      → HasCleanDisk (state g.S.Store l.conn) → (contents : Contents)
      → HasContents (schema_under l.schema) contents (state g.S.Store l.fn.conn).now → HoldsHeads contents l.heads
      → (zones : List NamedZone) × HoldsFirst l.schema contents (take l.head-index l.heads) zones;
}
