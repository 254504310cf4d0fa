-- What is found in a database that already has tables.
use Rattle.std.specs.Prelude.{◌≡◌, ℕ, ℤ, List, [], ◌∷◌, Contains, codes, pos, Ok}
use Rattle.std.specs.List.{Any}
use Rattle.sqlite.specs.declared.error.Error.{Error}
use Rattle.sqlite.specs.declared.error.Error.TheVariants.{SqliteFailure}
use Rattle.sqlite.specs.declared.error.ErrorCode.TheVariants.{OutOfMemory}
use Rattle.sqlite.specs.declared.types.Value.TheVariants.{Int}
use Rattle.sqlite.specs.Order.{Row}
use Rattle.sqlite.specs.Effect.{Database}
use Rattle.sqlite.specs.State.{State, Shown, Executes}
use Rattle.store_rows.specs.Rows.{AreRows}
use Rattle.store_schema.specs.declared.error.StoreError.{StoreError}
use Rattle.store_schema.specs.declared.error.StoreError.TheVariants.{Fault, Memory}
use Rattle.store_schema.specs.Tables.{meta}
use Rattle.store_schema.specs.Inventory.{Inventory}
use Rattle.store_schema.specs.Stands.{IsStateOf}
use Rattle.store_schema.specs.Rows.{setting_row}
use Rattle.store_schema.specs.Earlier.{schema_under, number_under, IsEarlierStateOf}
use Rattle.store_schema.specs.declared.schema.Schema.{Schema}
use Rattle.store_schema.specs.declared.schema.Schema.TheVariants.{Third}

-- how an error of the database is reported
abbrev pub told : Error → StoreError
told (SqliteFailure OutOfMemory) = Memory
told _ = Fault

-- the query for what meta says; it has a meaning under any schema with a table or a view of that name and these columns
abbrev pub select_meta : List ℕ
select_meta = codes "SELECT k, v FROM meta"

-- its row that gives `schema` this number
abbrev pub Gives : ℤ → Row → Type 0
Gives n row = row ≡ setting_row n

-- it gives `schema` a number that is none of these
abbrev pub GivesOther : List ℤ → Row → Type 0
GivesOther numbers row = (n : ℤ) × Gives n row × ¬ Contains numbers n

-- the query for all that the meta of a schema holds
abbrev pub select_own : List ℕ
select_own = codes "SELECT rowid, k, v FROM meta"

-- its row, under any rowid, that gives `schema` this number
abbrev pub GivesOwn : ℤ → Row → Type 0
GivesOwn n row = (id : ℤ) × (row ≡ Int id ∷ setting_row n)

-- the rows are one that gives it this number
abbrev pub IsNumber : ℤ → List Row → Type 0
IsNumber n rows = (row : Row) × (rows ≡ row ∷ []) × GivesOwn n row

-- the number of the store's schema, and those of all schemas
abbrev pub own_numbers : List ℤ
own_numbers = pos 3 ∷ []

abbrev pub known_numbers : List ℤ
known_numbers = pos 1 ∷ pos 2 ∷ pos 3 ∷ []

-- By their own meaning of the query, meta gives `schema` a number that is none of these.
pub record HasNumberBut (numbers : List ℤ) (at : State) : Type 0 where
  pub rows : List Row
  pub shown : Shown select_meta [] at at rows
  pub other : Any (GivesOther numbers) rows

-- and it gives `schema` no other number than these
pub record HasNumbersAmong (numbers : List ℤ) (at : State) : Type 0 where
  pub rows : List Row
  pub shown : Shown select_meta [] at at rows
  pub no_other : ¬ Any (GivesOther numbers) rows

-- the tables are those of another schema than the store's, or than any schema of the store
abbrev pub HasOtherNumber : State → Type 0
HasOtherNumber = HasNumberBut own_numbers

abbrev pub HasUnknownNumber : State → Type 0
HasUnknownNumber = HasNumberBut known_numbers

-- the tables are those of the schema, and their number is its number
pub record HasTablesUnder (r : Schema) (db : Database) : Type 0 where
  pub schema : db.schema ≡ schema_under r
  pub number : AreRows meta (setting_row (number_under r) ∷ []) (db.trees meta.tree)

-- those of the store
abbrev pub HasOwnTables : Database → Type 0
HasOwnTables = HasTablesUnder Third

-- There are tables and they are not the store's, though meta gives `schema` no other number. They stand for no state.
pub record HasNoState (at : State) : Type 0 where
  pub none : (i : Inventory) → ¬ IsStateOf i at.now
  pub not_own : ¬ HasOwnTables at.now
  pub rows : List Row
  pub shown : Shown select_meta [] at at rows
  pub no_other : ¬ Any (GivesOther own_numbers) rows

-- There are tables and they are those of no schema, though meta gives `schema` only numbers of schemas. They stand for
-- no state.
pub record HasNoSchema (at : State) : Type 0 where
  pub none : (i : Inventory) → ¬ IsEarlierStateOf i at.now
  pub not_known : (r : Schema) → ¬ HasTablesUnder r at.now
  pub rows : List Row
  pub shown : Shown select_meta [] at at rows
  pub no_other : ¬ Any (GivesOther known_numbers) rows

-- the text ran and returned a count
abbrev pub HasRun : List ℕ → State → State → Type 0
HasRun sql old new = (count : ℕ) × Executes sql [] old new (Ok count)
