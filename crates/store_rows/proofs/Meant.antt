-- That a text means a statement on the rows of one table: each fact of a text that is written out is a `refl`.
use Rattle.std.proofs.Common.{◌≡◌, ◌≤◌, ◌+◌, ◌∷◌, ℕ, false, None, List, [], map, length, take, replicate}
use Rattle.std.proofs.Common.{slice_get, not, ◌==◌, ◌||◌, true, Some, arith}
use Rattle.std.specs.List.{list_all, range_with_len}
use Rattle.sqlite.specs.declared.types.Value.TheVariants.{Null, Text}
use Rattle.sqlite.specs.Order.{Row}
use Rattle.sqlite_value.specs.declared.keys.Key.{Key}
use Rattle.sqlite.specs.Term.{Term, lit, col}
use Rattle.sqlite.specs.Kind.TheVariants as kind
use Rattle.sqlite.specs.Schema.{Schema}
use Rattle.sqlite.specs.Table.{Table}
use Rattle.sqlite_schema.specs.declared.schema.Keys.TheVariants.{Enforced}
use Rattle.sqlite.specs.Source.TheVariants.{Values}
use Rattle.sqlite.specs.Command.{Command}
use Rattle.sqlite.specs.Command.TheVariants.{Select, Insert, InsertOr, Update, Delete}
use Rattle.sqlite_schema.specs.declared.command.Conflict.TheVariants.{Abort}
use Rattle.sqlite.specs.Listing.{understood, reads_listing}
use Rattle.sqlite.specs.Given.{IsPlain}
use Rattle.sqlite.proofs.Callers.{command_of}
use Rattle.sqlite_rules.specs.Action.{works}
use Rattle.store_rows.specs.Texts.{PutsIn, PutsByKey, PutsInPlace, DeletesByKey, ReadsRows, Suits}
use Rattle.store_rows.specs.Texts.{key_tests, scan_by, by_key, unique_keys, first_columns, works_of_update, tail_of}
use Rattle.store_rows.specs.Texts.{places_of, AreTexts, given_rows}
use Rattle.store_rows.proofs.Typed.{none_typed, one_typed}

module _ {schema : Schema} {at : ℕ} {table : Table} {sql : List ℕ} (found : slice_get schema.tables at ≡ Some table)
    (alone : list_all (λ (t : Table). not (t.tree == table.tree) || (length t.columns == length table.columns))
    schema.tables ≡ true) where
  pub puts_in : {count : ℕ} → command_of (understood schema sql) ≡ Insert at
      (Values (given_rows (length table.columns) 0 count) (length table.columns + 1))
      → IsPlain (understood schema sql) → table.is_counted ≡ false → table.stamps.terms ≡ []
      → PutsIn schema at table count sql
  puts_in command plain uncounted timeless = record {
    there = record { found = found; alone = alone };
    command = command;
    plain = plain;
    uncounted = uncounted;
    timeless = timeless;
  }

  module _ {width : ℕ} where
    pub puts_by_key : command_of (understood schema sql) ≡ InsertOr at Abort
        (Values (lit Null ∷ map (col 0) (range_with_len 0 (length table.columns))) (length table.columns + 1))
        (by_key table width ∷ [])
        → IsPlain (understood schema sql) → table.is_counted ≡ false → table.stamps.terms ≡ [] → table.key ≡ None
        → unique_keys schema table ≡ first_columns width ∷ []
        → map (λ c. c.kind) (take width table.columns) ≡ replicate width kind.Text → width ≤ length table.columns
        → ((olds news : List Row) → works_of_update schema table.tree olds news ≡ [])
        → PutsByKey schema at table width sql
    puts_by_key command plain uncounted timeless unnamed unique texts narrow free = record {
      there = record { found = found; alone = alone };
      command = command;
      plain = plain;
      uncounted = uncounted;
      timeless = timeless;
      unnamed = unnamed;
      unique = unique;
      texts = texts;
      narrow = narrow;
      free = free;
    }

    pub puts_in_place : command_of (understood schema sql) ≡ Update at (record {
      lets = [];
      body = scan_by table.tree (key_tests 0 width)
          (col 1 0 ∷ col 1 0 ∷ map (col 0) (range_with_len 0 (length table.columns))) [];
    })
        → IsPlain (understood schema sql) → width ≤ length table.columns
        → ((olds news : List Row) → works_of_update schema table.tree olds news ≡ [])
        → PutsInPlace schema at table width sql
    puts_in_place command plain narrow free = record {
      there = record { found = found; alone = alone };
      command = command;
      plain = plain;
      narrow = narrow;
      free = free;
    }

    pub takes_out : command_of (understood schema sql) ≡ Delete at (record {
      lets = [];
      body = scan_by table.tree (key_tests 0 width) (col 1 0 ∷ []) [];
    })
        → IsPlain (understood schema sql) → width ≤ length table.columns
        → ((olds : List Row) → works schema Enforced 0 table.tree olds [] ≡ [])
        → DeletesByKey schema at table width sql
    takes_out command plain narrow free = record {
      there = record { found = found; alone = alone };
      command = command;
      narrow = narrow;
      plain = plain;
      free = free;
    }

-- what a query orders its rows by, and the names of its columns
abbrev pub order_of : Command → List (Term × Key)
order_of (Select q names) = q.body.order
order_of _ = []

abbrev pub names_of : Command → List (List ℕ)
names_of (Select q names) = names
names_of _ = []

-- the text is a query of the rows of the table whose first columns are so many parameters
abbrev pub Queries : Schema → Table → List ℕ → ℕ → Type 0
Queries schema table sql width =
    command_of (understood schema sql) ≡ Select (record {
      lets = [];
      body = scan_by table.tree (key_tests 0 width) (map (col 1) (range_with_len 1 (length table.columns)))
          (order_of (command_of (understood schema sql)));
    }) (names_of (command_of (understood schema sql)))

module _ {schema : Schema} {table : Table} {sql : List ℕ} where
  reads : (width : ℕ) → Queries schema table sql width → IsPlain (understood schema sql)
      → reads_listing schema sql ≡ false
      → length sql ≤ tail_of (understood schema sql) → places_of (understood schema sql) ≡ width
      → ((key : Row) → AreTexts key → length key ≡ width → Suits schema sql key) → width ≤ length table.columns
      → ReadsRows schema table width sql
  reads width command plain unlisted whole given typed narrow = record {
    names = names_of (command_of (understood schema sql));
    order = order_of (command_of (understood schema sql));
    command = command;
    plain = plain;
    unlisted = unlisted;
    whole = whole;
    given = given;
    typed = typed;
    narrow = narrow;
  }

  -- of all rows
  pub reads_all : Queries schema table sql 0 → IsPlain (understood schema sql) → reads_listing schema sql ≡ false
      → length sql ≤ tail_of (understood schema sql) → places_of (understood schema sql) ≡ 0 → Suits schema sql []
      → ReadsRows schema table 0 sql
  reads_all command plain unlisted whole given typed =
      reads 0 command plain unlisted whole given (none_typed (Suits schema sql) typed) (omega arith)

  -- of those that have one text in their first column
  pub reads_of_one : Queries schema table sql 1 → IsPlain (understood schema sql) → reads_listing schema sql ≡ false
      → length sql ≤ tail_of (understood schema sql) → places_of (understood schema sql) ≡ 1
      → ((t : List ℕ) → Suits schema sql (Text t ∷ [])) → 1 ≤ length table.columns → ReadsRows schema table 1 sql
  reads_of_one command plain unlisted whole given typed narrow =
      reads 1 command plain unlisted whole given (one_typed (Suits schema sql) typed) narrow
