-- What a database of each schema becomes.
use Rattle.std.specs.Prelude.{◌≡◌, List, [], map}
use Rattle.sqlite.specs.Effect.{Database}
use Rattle.sqlite.specs.Schema.{Schema as SqliteSchema}
use Rattle.sqlite.specs.Tree.{Trees}
use Rattle.terms.specs.Types.{Sysmod}
use Rattle.store_schema.specs.Earlier.{StandsUnder}
use Rattle.store_schema.specs.Inventory.{Inventory}
use Rattle.store_schema.specs.Stands.{StandsFor}
use Rattle.store_schema.specs.declared.schema.Schema.{Schema}
use Rattle.store_schema.specs.declared.schema.Schema.TheVariants.{First, Second, Third}
use Rattle.store_migration.specs.Moved.{head_of}
use Rattle.store_migration.specs.declared.head.Head.{Head}

-- those of the SYSMODs whose sources move: under schema 1 all
abbrev pub moved_heads : Schema → List Sysmod → List Head
moved_heads First sysmods = map head_of sysmods
moved_heads Second sysmods = []
moved_heads Third sysmods = []

abbrev pub heads_under : Schema → Inventory → List Head
heads_under schema i = moved_heads schema i.global.sysmods

module _ (schema : Schema) (heads : List Head) (was : Database) where
  -- If these were its SYSMODs, the store's tables stand for whatever the tables of the schema stood for.
  abbrev pub Takes : Database → Type 0
  Takes db = (i : Inventory) → heads ≡ heads_under schema i → StandsUnder schema i was → StandsFor i db

  -- trees of such a database
  abbrev pub IsTaken : Trees → Type 0
  IsTaken db = (schema : SqliteSchema) × Takes (record { schema = schema; trees = db })
