-- The tables of the store, in the order in which they are created.
use Rattle.std.specs.Prelude.{◌+◌, true, false, [], ◌∷◌, None, map, codes, List, ℕ}
use Rattle.sqlite.specs.Collation.TheVariants.{Binary}
use Rattle.sqlite.specs.declared.types.Value.TheVariants.{Null}
use Rattle.sqlite.specs.Table.{Table}
use Rattle.sqlite.specs.Schema.{Schema}
use Rattle.sqlite_schema.specs.declared.schema.Column.{Column}
use Rattle.sqlite_schema.specs.declared.schema.Index.{Index}
use Rattle.sqlite_schema.specs.declared.schema.Reference.{Reference}
use Rattle.sqlite_schema.specs.declared.schema.Action.{Action}
use Rattle.sqlite_schema.specs.declared.schema.Action.TheVariants.{NoAction, Cascade}
use Rattle.sqlite_value.specs.Keys.{plain}
use Rattle.sqlite_catalog.specs.Listing.{automatic}
use Rattle.sqlite.specs.Kind.{Kind}
use Rattle.sqlite.specs.Kind.TheVariants.{Integer, Text, Blob}

-- a column that is NOT NULL, or may be NULL
abbrev pub filled : List ℕ → Kind → Column
filled name kind = record {
  name = name;
  kind = kind;
  is_strict = true;
  not_null = true;
  default = Null;
  collation = Binary;
}

abbrev pub optional : List ℕ → Kind → Column
optional name kind = record {
  name = name;
  kind = kind;
  is_strict = true;
  not_null = false;
  default = Null;
  collation = Binary;
}

-- its first column refers to this key
abbrev pub refers_to : List ℕ → List ℕ → Action → Reference
refers_to parent key on_delete = record {
  columns = 1 ∷ [];
  parent = parent;
  parent_columns = key ∷ [];
  on_delete = on_delete;
  on_update = NoAction;
  is_deferred = false;
}

-- a STRICT table with a PRIMARY KEY over these places
abbrev pub table_of : List ℕ → ℕ → List Column → List ℕ → List Reference → Table
table_of name tree columns primary references = record {
  name = name;
  tree = tree;
  columns = columns;
  key = None;
  primary = primary;
  uniques = primary ∷ [];
  orders = plain ∷ [];
  checks = [];
  references = references;
  computed = [];
  stamps = record { places = []; terms = []; formats = [] };
  is_counted = false;
}

-- the number of the schema, under the name `schema`
abbrev pub meta : Table
meta = table_of (codes "meta") 0
    (filled (codes "k") Text ∷ filled (codes "v") Integer ∷ [])
    (1 ∷ []) ([])

-- received SYSMODs
abbrev pub sysmod : Table
sysmod = table_of (codes "sysmod") 2
    (filled (codes "id") Text ∷ filled (codes "kind") Text ∷ filled (codes "sources") Text ∷ [])
    (1 ∷ []) ([])

-- their ++VERs
abbrev pub ver : Table
ver = table_of (codes "ver") 4
    (filled (codes "id") Text ∷ filled (codes "srel") Text ∷ optional (codes "fmid") Text ∷ filled (codes "pre") Text
    ∷ filled (codes "req") Text ∷ filled (codes "sup") Text ∷ filled (codes "npre") Text
    ∷ filled (codes "del") Text ∷ [])
    (1 ∷ 2 ∷ []) (refers_to (codes "sysmod") (codes "id") Cascade ∷ [])

-- the ++IFs of a ++VER, which count from 1
abbrev pub ifreq : Table
ifreq = table_of (codes "ifreq") 6
    (filled (codes "id") Text ∷ filled (codes "srel") Text ∷ filled (codes "n") Integer ∷ filled (codes "fmid") Text
    ∷ filled (codes "req") Text ∷ [])
    (1 ∷ 2 ∷ 3 ∷ []) (refers_to (codes "sysmod") (codes "id") Cascade ∷ [])

-- holds; their SYSMOD need not be received
abbrev pub hold : Table
hold = table_of (codes "hold") 8
    (filled (codes "id") Text ∷ filled (codes "kind") Text ∷ filled (codes "reason") Text ∷ filled (codes "fmid") Text
    ∷ optional (codes "class") Text ∷ optional (codes "date") Text ∷ optional (codes "comment") Text
    ∷ filled (codes "internal") Integer ∷ [])
    (1 ∷ 2 ∷ 3 ∷ []) ([])

-- the element statements of SYSMODs
abbrev pub elem : Table
elem = table_of (codes "elem") 10
    (filled (codes "id") Text ∷ filled (codes "type") Text ∷ filled (codes "name") Text ∷ filled (codes "upd") Integer
    ∷ optional (codes "distlib") Text ∷ optional (codes "syslib") Text ∷ filled (codes "text") Blob ∷ [])
    (1 ∷ 2 ∷ 3 ∷ []) (refers_to (codes "sysmod") (codes "id") Cascade ∷ [])

-- target and distribution zones
abbrev pub zone : Table
zone = table_of (codes "zone") 12
    (filled (codes "name") Text ∷ filled (codes "kind") Text ∷ filled (codes "srel") Text
    ∷ optional (codes "related") Text ∷ [])
    (1 ∷ []) ([])

-- the SYSMOD entries of zones
abbrev pub entry : Table
entry = table_of (codes "entry") 14
    (filled (codes "zone") Text ∷ filled (codes "id") Text ∷ optional (codes "date") Text ∷ filled (codes "supby") Text
    ∷ optional (codes "delby") Text ∷ filled (codes "waived") Text ∷ [])
    (1 ∷ 2 ∷ []) (refers_to (codes "zone") (codes "name") NoAction ∷ [])

-- the element entries of zones
abbrev pub zelem : Table
zelem = table_of (codes "zelem") 16
    (filled (codes "zone") Text ∷ filled (codes "type") Text ∷ filled (codes "name") Text ∷ filled (codes "fmid") Text
    ∷ filled (codes "rmid") Text ∷ filled (codes "umid") Text ∷ filled (codes "distlib") Text
    ∷ filled (codes "syslib") Text ∷ filled (codes "text") Blob ∷ [])
    (1 ∷ 2 ∷ 3 ∷ []) (refers_to (codes "zone") (codes "name") NoAction ∷ [])

-- the sources of SYSMODs
abbrev pub source : Table
source = table_of (codes "source") 18
    (filled (codes "id") Text ∷ filled (codes "name") Text ∷ [])
    (1 ∷ 2 ∷ []) (refers_to (codes "sysmod") (codes "id") Cascade ∷ [])

-- a SYSMOD's further ++VERs of one SREL, which count from 2
abbrev pub morever : Table
morever = table_of (codes "morever") 20
    (filled (codes "id") Text ∷ filled (codes "srel") Text ∷ filled (codes "n") Integer ∷ optional (codes "fmid") Text
    ∷ filled (codes "pre") Text ∷ filled (codes "req") Text ∷ filled (codes "sup") Text ∷ [])
    (1 ∷ 2 ∷ 3 ∷ []) (refers_to (codes "sysmod") (codes "id") Cascade ∷ [])

-- the ++IFs of these; `v` is the number of the ++VER
abbrev pub moreif : Table
moreif = table_of (codes "moreif") 22
    (filled (codes "id") Text ∷ filled (codes "srel") Text ∷ filled (codes "v") Integer ∷ filled (codes "n") Integer
    ∷ filled (codes "fmid") Text ∷ filled (codes "req") Text ∷ [])
    (1 ∷ 2 ∷ 3 ∷ 4 ∷ []) (refers_to (codes "sysmod") (codes "id") Cascade ∷ [])

-- the ++VER of the zone's SREL by which an entry was installed, if it was not the first
abbrev pub chosen : Table
chosen = table_of (codes "chosen") 24
    (filled (codes "zone") Text ∷ filled (codes "id") Text ∷ filled (codes "n") Integer ∷ [])
    (1 ∷ 2 ∷ []) (refers_to (codes "zone") (codes "name") NoAction ∷ [])

-- the index that its PRIMARY KEY makes
abbrev pub index_of : Table → Index
index_of table = automatic table 0 table.primary (table.tree + 1)

-- the schema of these tables
abbrev pub schema_of : List Table → Schema
schema_of tables = record { tables = tables; indexes = map index_of tables; views = [] }

abbrev pub global_tables : List Table
global_tables = sysmod ∷ ver ∷ ifreq ∷ hold ∷ elem ∷ []

-- the tables of schema 1
abbrev pub first_tables : List Table
first_tables = meta ∷ sysmod ∷ ver ∷ ifreq ∷ hold ∷ elem ∷ zone ∷ entry ∷ zelem ∷ []

-- the tables of schema 2
abbrev pub second_tables : List Table
second_tables = meta ∷ sysmod ∷ ver ∷ ifreq ∷ hold ∷ elem ∷ zone ∷ entry ∷ zelem ∷ source ∷ []

-- those of schema 3, which is the store's
abbrev pub all_tables : List Table
all_tables =
    meta ∷ sysmod ∷ ver ∷ ifreq ∷ hold ∷ elem ∷ zone ∷ entry ∷ zelem ∷ source ∷ morever ∷ moreif ∷ chosen ∷ []

abbrev pub store_schema : Schema
store_schema = schema_of all_tables
