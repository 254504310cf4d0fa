use Rattle.std.proofs.Common.{◌≡◌, false, map}
use Rattle.std.specs.List.{AllByRecursion}
use Rattle.sqlite.specs.Given.{Returns}
use Rattle.sqlite.specs.Listing.{understood}
use Rattle.sqlite.specs.Values.{bound}
use Rattle.store_rows.proofs.RowByRow.{IsUnderWay}
use Rattle.store_rows.proofs.reading.load.Given as goal

abbrev pub invariant-rows : goal.invariant-rows
invariant-rows g l = record {
  same_reference : l.rows.conn.ghost_name ≡ l.initial.rows.conn.ghost_name;
  forms : AllByRecursion g.T.FromRow.has_form l.items.items;
  mode : l.fn.conn.in_transaction ≡ false → l.rows.conn.now.in_transaction ≡ false;
  under_way : ¬ Returns (understood l.fn.conn.schema l.sql) → IsUnderWay g.S.Store l.sql (bound l.key) l.fn.conn
      l.rows.conn.now (map g.T.FromRow.row_of l.items.items);
}
