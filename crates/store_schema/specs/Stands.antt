-- When the rows of a database stand for an inventory.
use Rattle.std.specs.Prelude.{◌≡◌, ◌⊎◌, ◌==◌, List, [], ◌∷◌, ◌++◌, map, if◌then◌else◌}
use Rattle.std.specs.List.{flat_map}
use Rattle.sqlite.specs.Order.{Row}
use Rattle.sqlite.specs.Tree.{Trees}
use Rattle.sqlite.specs.Table.{Table}
use Rattle.sqlite.specs.Effect.{Database}
use Rattle.store_rows.specs.Rows.{Contents, HasContents}
use Rattle.store_schema.specs.Tables.{meta, sysmod, ver, ifreq, hold, elem, zone, entry, zelem, source, morever}
use Rattle.store_schema.specs.Tables.{moreif, chosen, store_schema}
use Rattle.store_schema.specs.Create.{IsBlank}
use Rattle.store_schema.specs.Inventory.{Inventory, IsInventory, empty_inventory}
use Rattle.store_schema.specs.Rows.{number_row, sysmod_row, vers_of, ifreqs_of, hold_row, elems_of, zone_row}
use Rattle.store_schema.specs.Rows.{entries_of, zelems_of, sources_of, morevers_of, moreifs_of, chosen_of}

-- the contents of the tables that are the same under all schemas of the store
abbrev pub shared_tables_of : Inventory → List (Table × List Row)
shared_tables_of i =
    (ver, flat_map vers_of i.global.sysmods)
    ∷ (ifreq, flat_map ifreqs_of i.global.sysmods)
    ∷ (hold, map hold_row i.global.holds)
    ∷ (elem, flat_map elems_of i.global.sysmods)
    ∷ (zone, map zone_row i.zones)
    ∷ (entry, flat_map entries_of i.zones)
    ∷ (zelem, flat_map zelems_of i.zones)
    ∷ []

-- what each table holds: the schema's number, and the rows of the inventory
abbrev pub tables_of : Inventory → List (Table × List Row)
tables_of i =
    (meta, number_row ∷ [])
    ∷ (sysmod, map sysmod_row i.global.sysmods)
    ∷ shared_tables_of i
    ++ (source, flat_map sources_of i.global.sysmods)
    ∷ (morever, flat_map morevers_of i.global.sysmods)
    ∷ (moreif, flat_map moreifs_of i.global.sysmods)
    ∷ (chosen, flat_map chosen_of i.zones)
    ∷ []

-- the rows of the table that has the tree
abbrev pub rows_in : List (Table × List Row) → Contents
rows_in [] tree = []
rows_in (t ∷ ts) tree = if tree == t.0.tree then t.1 else rows_in ts tree

abbrev pub rows_of : Inventory → Contents
rows_of i = rows_in (tables_of i)

-- The tables are the store's. Each holds the rows of the inventory, in any order, and nothing else.
pub record StandsFor (i : Inventory) (db : Database) : Type 0 where
  pub tables : HasContents store_schema (rows_of i) db
  pub inventory : IsInventory i

-- A database without tables and views stands for an empty inventory.
abbrev pub IsStateOf : Inventory → Database → Type 0
IsStateOf i db = (IsBlank db × (i ≡ empty_inventory)) ⊎ StandsFor i db

-- The database was blank, and these trees are the tables of an empty inventory.
abbrev pub IsSetUp : Database → Trees → Type 0
IsSetUp was db = IsBlank was × StandsFor empty_inventory (record { schema = store_schema; trees = db })

-- A database has at most one state.
abbrev pub HasOneState : Type 0
HasOneState = (db : Database) (i j : Inventory) → IsStateOf i db → IsStateOf j db → i ≡ j
