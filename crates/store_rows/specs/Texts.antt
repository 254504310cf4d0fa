-- What the text of a statement that writes or reads the rows of one table means under a schema.
use Rattle.std.specs.Prelude.{◌≡◌, ◌≢◌, ◌≤◌, ◌+◌, ◌==◌, ◌||◌, ℕ, zero, suc, Bool, true, false, not, pos, negsuc, List}
use Rattle.std.specs.Prelude.{[], ◌∷◌, ◌++◌, ◌-◌, map, filter, length, take, replicate, slice_get, Some, None, IfSome}
use Rattle.std.specs.Prelude.{Result, Ok, Err}
use Rattle.std.specs.List.{AllByRecursion, list_all, flat_map, filter_map, range_with_len}
use Rattle.sqlite.specs.declared.types.Value.TheVariants.{Null, Int, Text}
use Rattle.sqlite.specs.Order.{Row}
use Rattle.sqlite.specs.Collation.TheVariants.{Binary}
use Rattle.sqlite_sql.specs.declared.ops.CompareOp.TheVariants.{Eq}
use Rattle.sqlite_sql.specs.declared.ops.BinaryOp.TheVariants.{Compare}
use Rattle.sqlite_value.specs.declared.keys.Key.{Key}
use Rattle.sqlite.specs.Term.{Term, lit, col, op2}
use Rattle.sqlite.specs.Query.{Query, inner, end}
use Rattle.sqlite.specs.Cast.{cast}
use Rattle.sqlite.specs.Kind.TheVariants as kind
use Rattle.sqlite.specs.Schema.{Schema}
use Rattle.sqlite.specs.Table.{Table}
use Rattle.sqlite_schema.specs.declared.schema.Column.{Column}
use Rattle.sqlite_value.specs.declared.keys.Order.{Order}
use Rattle.sqlite_schema.specs.declared.schema.Keys.TheVariants.{Enforced}
use Rattle.sqlite.specs.Source.TheVariants.{Values}
use Rattle.sqlite.specs.Command.{Command}
use Rattle.sqlite.specs.Command.TheVariants.{Select, Insert, InsertOr, Update, Delete}
use Rattle.sqlite_schema.specs.declared.command.Conflict.TheVariants.{Abort}
use Rattle.sqlite_schema.specs.declared.command.Upsert.{Upsert}
use Rattle.sqlite_schema.specs.Program.{lets_of}
use Rattle.sqlite_typing.specs.Types.{accepts_program}
use Rattle.sqlite_resolve.specs.declared.compiled.Compiled.{Compiled}
use Rattle.sqlite_resolve.specs.declared.error.CompileError.{CompileError}
use Rattle.sqlite.specs.Listing.{understood, reads_listing}
use Rattle.sqlite.specs.Given.{IsPlain}
use Rattle.sqlite.proofs.Callers.{command_of}
use Rattle.sqlite_rules.specs.Action.{Work, works, work_by, work_for, deed_for, pairs}
use Rattle.sqlite_schema.specs.Rules.{parent_key, guards}
use Rattle.sqlite_rules.specs.Lists.{Has}
use Rattle.sqlite_value.specs.Keys.{first_key, plain}

-- each value is one that its column stores unchanged
abbrev pub SuitColumns : List Column → Row → Type 0
SuitColumns [] [] = Unit {0}
SuitColumns [] (v ∷ values) = ⊥
SuitColumns (c ∷ columns) [] = ⊥
SuitColumns (c ∷ columns) (v ∷ values) = (cast c.kind v ≡ v) × SuitColumns columns values

-- the first columns are the parameters
abbrev pub key_tests : ℕ → ℕ → List Term
key_tests from zero = []
key_tests from (suc n) = op2 (Compare Eq Binary) (col 1 (from + 1)) (col 0 from) ∷ key_tests (from + 1) n

-- the rows of one table that pass the tests; no row cuts them off
abbrev pub scan_by : ℕ → List Term → List Term → List (Term × Key) → Query
scan_by tree tests project order = record {
  from = inner tree end;
  filter = tests;
  group = None;
  project = project;
  distinct = false;
  collations = [];
  order = order;
  limit = lit (Int (negsuc 0));
  offset = lit (Int (pos 0));
}

-- the table exists, and its tree is no other table's
pub record IsTableOf (schema : Schema) (at : ℕ) (table : Table) : Type 0 where
  pub found : slice_get schema.tables at ≡ Some table
  pub alone : list_all (λ (t : Table). not (t.tree == table.tree) || (length t.columns == length table.columns))
      schema.tables ≡ true

-- rows of so many columns, each with a rowid of the database's choice, whose columns are the parameters from one on
abbrev pub given_rows : ℕ → ℕ → ℕ → List Term
given_rows width from zero = []
given_rows width from (suc n) =
    (lit Null ∷ map (col 0) (range_with_len from width)) ++ given_rows width (from + width) n

-- INSERT of so many rows, whose columns are the parameters, row after row
pub record PutsIn (schema : Schema) (at : ℕ) (table : Table) (count : ℕ) (sql : List ℕ) : Type 0 where
  pub there : IsTableOf schema at table
  pub command : command_of (understood schema sql) ≡ Insert at
      (Values (given_rows (length table.columns) 0 count) (length table.columns + 1))
  pub plain : IsPlain (understood schema sql)
  pub uncounted : table.is_counted ≡ false
  pub timeless : table.stamps.terms ≡ []

-- DELETE of the rows whose first columns are so many parameters, which triggers no action of a foreign key
pub record DeletesByKey (schema : Schema) (at : ℕ) (table : Table) (width : ℕ) (sql : List ℕ) : Type 0 where
  pub there : IsTableOf schema at table
  pub command : command_of (understood schema sql) ≡ Delete at
      (record { lets = []; body = scan_by table.tree (key_tests 0 width) (col 1 0 ∷ []) [] })
  pub narrow : width ≤ length table.columns
  pub plain : IsPlain (understood schema sql)
  pub free : (olds : List Row) → works schema Enforced 0 table.tree olds [] ≡ []

-- what an UPDATE of a table's rows triggers
abbrev pub works_of_update : Schema → ℕ → List Row → List Row → List Work
works_of_update schema tree olds news =
    flat_map (λ child. filter_map (λ ref. work_by 0 tree (pairs olds news) child ref (deed_for Enforced false ref)
    (parent_key schema.tables ref)) child.references) schema.tables

-- UPDATE of the rows whose first columns are so many parameters; the parameters are the new row
pub record PutsInPlace (schema : Schema) (at : ℕ) (table : Table) (width : ℕ) (sql : List ℕ) : Type 0 where
  pub there : IsTableOf schema at table
  pub command : command_of (understood schema sql)
      ≡ Update at (record {
        lets = [];
        body = scan_by table.tree (key_tests 0 width)
            (col 1 0 ∷ col 1 0 ∷ map (col 0) (range_with_len 0 (length table.columns))) [];
      })
  pub plain : IsPlain (understood schema sql)
  pub narrow : width ≤ length table.columns
  pub free : (olds news : List Row) → works_of_update schema table.tree olds news ≡ []

-- The row whose rowid follows the parameters keeps so many of its first columns. It takes the others from the row that
-- follows its rowid, `excluded`.
abbrev pub excluded : Table → ℕ → Query
excluded table width =
    let count = length table.columns in
    scan_by table.tree (op2 (Compare Eq Binary) (col 1 0) (col 0 count) ∷ [])
    (col 1 0 ∷ col 1 0 ∷ map (col 1) (range_with_len 1 width)
    ++ map (col 0) (range_with_len (count + 2 + width) (count - width))) []

-- a key: its columns, and how they compare
abbrev pub Columns : Type 0
Columns = List ℕ × Order

-- so many of the first columns, which compare as they are
abbrev pub first_columns : ℕ → Columns
first_columns width = (range_with_len 1 width, plain)

-- the keys that no two rows of the table share
abbrev pub unique_keys : Schema → Table → List Columns
unique_keys schema table = map {B = Columns} (λ i. (i.columns, i.order)) (filter (λ i. guards i table) schema.indexes)

-- ON CONFLICT with the row that has so many first columns of the new one, it updates that row.
abbrev pub by_key : Table → ℕ → Upsert
by_key table width = record {
  target = Some (range_with_len 1 width);
  update = Some (record { lets = []; body = excluded table width });
}

-- INSERT of one row, whose columns are the parameters, or an UPDATE of the row that has so many of its first columns.
-- These columns are texts, and no others are unique.
pub record PutsByKey (schema : Schema) (at : ℕ) (table : Table) (width : ℕ) (sql : List ℕ) : Type 0 where
  pub there : IsTableOf schema at table
  pub command : command_of (understood schema sql) ≡ InsertOr at Abort
      (Values (lit Null ∷ map (col 0) (range_with_len 0 (length table.columns))) (length table.columns + 1))
      (by_key table width ∷ [])
  pub plain : IsPlain (understood schema sql)
  pub uncounted : table.is_counted ≡ false
  pub timeless : table.stamps.terms ≡ []
  pub unnamed : table.key ≡ None
  pub unique : unique_keys schema table ≡ first_columns width ∷ []
  pub texts : map (λ c. c.kind) (take width table.columns) ≡ replicate width kind.Text
  pub narrow : width ≤ length table.columns
  pub free : (olds news : List Row) → works_of_update schema table.tree olds news ≡ []

-- a foreign key's action on these old rows: it deletes the rows of one of these tables whose first column is that of an
-- old row
pub record IsCascade (children : List Table) (olds : List Row) (w : Work) : Type 0 where
  pub child : Has children w.child
  pub columns : w.ref.columns ≡ 1 ∷ []
  pub places : w.places ≡ 1 ∷ []
  pub collation : (first_key w.order).collation ≡ Binary
  pub shallow : w.depth ≡ 0
  pub moves : w.moves ≡ pairs olds []

-- DELETE of the rows whose first column is the parameter, which triggers the deletion of rows of other tables that
-- refer to it
pub record TakesOutParent (schema : Schema) (at : ℕ) (table : Table) (children : List Table) (sql : List ℕ) :
    Type 0 where
  pub there : IsTableOf schema at table
  pub command : command_of (understood schema sql) ≡ Delete at
      (record { lets = []; body = scan_by table.tree (key_tests 0 1) (col 1 0 ∷ []) [] })
  pub plain : IsPlain (understood schema sql)
  pub narrow : 1 ≤ length table.columns
  pub children_there : AllByRecursion (λ t. Has schema.tables t × (t.tree ≢ table.tree) × (1 ≤ length t.columns))
      children
  pub acts : (olds : List Row) → AllByRecursion (λ child. AllByRecursion
      (λ ref. IfSome (work_for schema Enforced 0 table.tree olds [] child ref) (IsCascade children olds))
      child.references) schema.tables

-- how much of the text a statement takes, and how many parameters
abbrev pub tail_of : Result Compiled CompileError → ℕ
tail_of (Ok c) = c.tail
tail_of (Err e) = 0

abbrev pub places_of : Result Compiled CompileError → ℕ
places_of (Ok c) = length c.names
places_of (Err e) = 0

-- the values are texts
abbrev pub AreTexts : Row → Type 0
AreTexts = AllByRecursion (λ v. (t : List ℕ) × (v ≡ Text t))

-- the query is of a type with these parameters
abbrev pub is_typed : Schema → Row → Command → Bool
is_typed schema params (Select q names) = accepts_program schema (lets_of q) q.body params
is_typed schema params _ = false

abbrev pub Suits : Schema → List ℕ → Row → Type 0
Suits schema sql params = is_typed schema params (command_of (understood schema sql)) ≡ true

-- SELECT of all columns of the rows whose first columns are so many parameters, in any order. It suits texts.
pub record ReadsRows (schema : Schema) (table : Table) (width : ℕ) (sql : List ℕ) : Type 0 where
  pub names : List (List ℕ)
  pub order : List (Term × Key)
  pub command : command_of (understood schema sql) ≡ Select (record {
    lets = [];
    body = scan_by table.tree (key_tests 0 width) (map (col 1) (range_with_len 1 (length table.columns)))
        order;
  }) names
  pub plain : IsPlain (understood schema sql)
  pub unlisted : reads_listing schema sql ≡ false
  pub whole : length sql ≤ tail_of (understood schema sql)
  pub given : places_of (understood schema sql) ≡ width
  pub typed : (key : Row) → AreTexts key → length key ≡ width → Suits schema sql key
  pub narrow : width ≤ length table.columns
