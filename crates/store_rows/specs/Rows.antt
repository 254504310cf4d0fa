-- What the tables of a database hold: rows in any order, each as the values of its columns.
use Rattle.std.specs.Prelude.{◌≡◌, ◌&&◌, ◌==◌, ℕ, Bool, true, false, not, if◌then◌else◌, List, [], ◌∷◌, ◌++◌, map}
use Rattle.std.specs.Prelude.{filter, length, IsPermutation}
use Rattle.std.specs.List.{AllByRecursion, range_with_len}
use Rattle.sqlite.specs.Order.{Row, column}
use Rattle.sqlite.specs.Tree.{rowid}
use Rattle.sqlite.specs.Collation.TheVariants.{Binary}
use Rattle.sqlite.specs.Values.{bound_value}
use Rattle.sqlite.specs.Schema.{Schema}
use Rattle.sqlite.specs.Table.{Table}
use Rattle.sqlite_schema.specs.Rules.{equal}
use Rattle.sqlite.specs.Effect.{Database, IsDatabase}
use Rattle.store_rows.specs.Numbered.{AreNumbered}

-- the values of a row in the columns of its table, with NULL past the row's end
abbrev pub shown : Table → Row → Row
shown table r = map (column r) (range_with_len 1 (length table.columns))

-- whether the first columns equal those of the key, by SQL's `=`
abbrev pub has_key : Row → Row → Bool
has_key [] cells = true
has_key (k ∷ key) [] = false
has_key (k ∷ key) (c ∷ cells) = equal Binary c k && has_key key cells

-- The table holds these rows in some order, and no two of its rows have the same rowid.
pub record AreRows (table : Table) (held rows : List Row) : Type 0 where
  pub same : IsPermutation held (map (shown table) rows)
  pub numbered : AreNumbered (map (λ r. rowid r ∷ shown table r) rows)

-- what the tables hold, each under the number of its tree
abbrev pub Contents : Type 0
Contents = ℕ → List Row

-- The trees list this schema and obey it, and each of its tables holds these rows.
pub record HasContents (schema : Schema) (contents : Contents) (db : Database) : Type 0 where
  pub schema_is : db.schema ≡ schema
  pub sound : IsDatabase db
  pub tables : AllByRecursion (λ t. AreRows t (contents t.tree) (db.trees t.tree)) schema.tables

-- the rows of one table become the function's value of them
abbrev pub in_table : Table → (List Row → List Row) → Contents → Contents
in_table table make contents t = if t == table.tree then make (contents t) else contents t

-- A query found these: the rows of the table that have the key, in some order.
abbrev pub AreFound : Table → Row → List Row → List Row → Type 0
AreFound table key found rows = IsPermutation found (filter (has_key key) (map (shown table) rows))

-- a row as it is bound to parameters
abbrev pub as_bound : Row → Row
as_bound = map bound_value

-- one more row
abbrev pub with_row : Row → List Row → List Row
with_row row rows = row ∷ rows

-- these rows too
abbrev pub with_rows : List Row → List Row → List Row
with_rows news rows = news ++ rows

-- the rows that do not have the key
abbrev pub without : Row → List Row → List Row
without key rows = filter (λ r. not (has_key key r)) rows

-- the table's rows, with one row instead of those that have the key
abbrev pub with_put : Table → Row → Row → Contents → Contents
with_put table key row contents = in_table table (with_row row) (in_table table (without key) contents)

-- the rows, with this one instead of each that has the key
abbrev pub in_place : Row → Row → List Row → List Row
in_place key row rows = map (λ r. if has_key key r then row else r) rows

-- none of these tables holds a row that has the key
abbrev pub HaveNone : List Table → Row → Contents → Type 0
HaveNone tables key contents = AllByRecursion (λ t. without key (contents t.tree) ≡ contents t.tree) tables
