-- What a put and a removal do, told of rows that are equal to those that were bound.
use Rattle.std.proofs.Common.{◌≡◌, ℕ, take, sym, subst}
use Rattle.sqlite.specs.Store.{Ghosts}
use Rattle.sqlite.specs.Held.{Held}
use Rattle.sqlite.specs.Order.{Row}
use Rattle.sqlite.specs.Schema.{Schema}
use Rattle.sqlite.specs.Table.{Table}
use Rattle.store_rows.specs.Inside.{Turns}
use Rattle.store_rows.specs.Rows.{HasContents, in_table, with_put, with_row, without}
use Rattle.store_rows.specs.Texts.{SuitColumns}

module _ {S : Type 0} (g : Ghosts S) (old new : Held S) (schema : Schema) (table : Table) where
  pub as_put : (width : ℕ) (row r : Row) → r ≡ row
      → Turns g old new (HasContents schema) (with_put table (take width r) r)
      → Turns g old new (HasContents schema) (with_put table (take width row) row)
  as_put width row r e h = subst (λ a. Turns g old new (HasContents schema) (with_put table (take width a) a)) e h

  pub as_removed : (key k : Row) → k ≡ key → Turns g old new (HasContents schema) (in_table table (without k))
      → Turns g old new (HasContents schema) (in_table table (without key))
  as_removed key k e h = subst (λ a. Turns g old new (HasContents schema) (in_table table (without a))) e h

  pub as_inserted : (row r : Row) → r ≡ row → Turns g old new (HasContents schema) (in_table table (with_row r))
      → Turns g old new (HasContents schema) (in_table table (with_row row))
  as_inserted row r e h = subst (λ a. Turns g old new (HasContents schema) (in_table table (with_row a))) e h

pub kept_as : (table : Table) (row r : Row) → r ≡ row → SuitColumns table.columns row → SuitColumns table.columns r
kept_as table row r e h = subst (SuitColumns table.columns) (sym e) h
