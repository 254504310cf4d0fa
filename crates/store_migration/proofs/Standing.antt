-- Tables whose rows were all read stand for an inventory.
use Rattle.std.proofs.Common.{◌≡◌, ◌==◌, inl, List, [], ◌∷◌, map, if◌then◌else◌, IsPermutation}
use Rattle.std.proofs.Common.{refl, sym, subst}
use Rattle.std.specs.List.{AllByRecursion, flat_map}
use Rattle.std.proofs.lemmas.List.Elements.{All-from_recursion}
use Rattle.std.proofs.lemmas.List.Sorted.{IsPermutation-refl, IsPermutation-sym, IsPermutation-trans}
use Rattle.terms.proofs.Each.{recursion_weaker}
use Rattle.sqlite.specs.Effect.{Database, IsDatabase}
use Rattle.sqlite.specs.Schema.{Schema as SqliteSchema}
use Rattle.sqlite.specs.Table.{Table}
use Rattle.sqlite.specs.Tree.{Trees, rowid}
use Rattle.sqlite_rules.specs.Lists.{Has}
use Rattle.sqlite_rules.proofs.ListLemmas.{all_has}
use Rattle.store_rows.specs.Numbered.{AreNumbered}
use Rattle.store_rows.specs.Rows.{Contents, HasContents, AreRows, shown}
use Rattle.store_rows.proofs.ContentsLemmas.{permuted}
use Rattle.terms.specs.Types.{Global, NamedZone}
use Rattle.store_schema.specs.declared.schema.Schema.{Schema}
use Rattle.store_schema.specs.declared.schema.Schema.TheVariants.{First, Second, Third}
use Rattle.store_schema.specs.Earlier.{IsOfEarlier, schema_under, tables_under, number_under, StandsUnder}
use Rattle.store_schema.specs.Forms.{HasHoldForms}
use Rattle.store_schema.specs.Inventory.{Inventory, IsInventory, IsZoneNamed}
use Rattle.store_schema.specs.Known.{HasTablesUnder}
use Rattle.store_schema.specs.Rows.{setting_row, zone_row, entries_of, zelems_of, chosen_of}
use Rattle.store_schema.specs.Tables.{meta, zone, entry, zelem, chosen}
use Rattle.store_schema.proofs.UnderEach.{rows_under}
use Rattle.store_zones.specs.Held.{HoldsZone, HoldsNumbers}
use Rattle.store_migration.specs.Migrated.{HasRowids}
use Rattle.store.specs.Whole.{HoldsGlobal, HoldsZones}
use Rattle.store_migration.proofs.Formed.{sysmods_forms, short_sources}
use Rattle.store_migration.proofs.Parents.{chosen_refers}
use Rattle.store_migration.proofs.Zones as zones

-- ---- what the tables hold, whatever it is

rows_at : Trees → List Table → Contents
rows_at db [] n = []
rows_at db (t ∷ ts) n = if n == t.tree then map (shown t) (db n) else rows_at db ts n

abbrev IsShown : Trees → Schema → Table → Type 0
IsShown db r t = rows_at db (tables_under r) t.tree ≡ map (shown t) (db t.tree)

all_shown : (db : Trees) (r : Schema) → AllByRecursion (IsShown db r) (tables_under r)
unfolding rows_at
all_shown db First = (refl, (refl, (refl, (refl, (refl, (refl, (refl, (refl, (refl, tt)))))))))
all_shown db Second = (refl, (refl, (refl, (refl, (refl, (refl, (refl, (refl, (refl, (refl, tt))))))))))
all_shown db Third =
    (refl, (refl, (refl, (refl, (refl, (refl, (refl, (refl, (refl, (refl, (refl, (refl, (refl, tt)))))))))))))

abbrev IsNumbered : Trees → Table → Type 0
IsNumbered db t = AreNumbered (map (λ r. rowid r ∷ shown t r) (db t.tree))

are_rows : (db : Trees) (c : Contents) (ts : List Table)
    → AllByRecursion (λ t. c t.tree ≡ map (shown t) (db t.tree)) ts → AllByRecursion (IsNumbered db) ts
    → AllByRecursion (λ t. AreRows t (c t.tree) (db t.tree)) ts
are_rows db c [] same numbered = tt
are_rows db c (t ∷ ts) same numbered = (
  record {
    same = subst (λ rows. IsPermutation rows (map (shown t) (db t.tree))) (sym same.0) (IsPermutation-refl _);
    numbered = numbered.0;
  },
  are_rows db c ts same.1 numbered.1,
)

has_contents : (r : Schema) (db : Database) → db.schema ≡ schema_under r → IsDatabase db → HasRowids db
    → HasContents (schema_under r) (rows_at db.trees (tables_under r)) db
has_contents r db own sound rowids = record {
  schema_is = own;
  sound = sound;
  tables = are_rows db.trees (rows_at db.trees (tables_under r)) (tables_under r) (all_shown db.trees r)
      (subst (λ (s : SqliteSchema). AllByRecursion (IsNumbered db.trees) s.tables) own rowids);
}

-- ---- the inventory

module _ (r : Schema) (c : Contents) (db : Database) (held : HasContents (schema_under r) c db)
    (known : HasTablesUnder r db) (global : Global) (g : HoldsGlobal r c global) (all : List NamedZone)
    (z : HoldsZones r c all) where
  abbrev found : Inventory
  found = record { global = global; zones = all }

  is_inventory : IsInventory found
  is_inventory = record {
    global = g.whole;
    sysmods = sysmods_forms r global.sysmods g.lists.formed;
    holds = All-from_recursion HasHoldForms global.holds g.lists.hold_forms;
    names = zones.names_rise all z.heads.rise;
    zones = All-from_recursion IsZoneNamed all
        (recursion_weaker (HoldsZone c) IsZoneNamed (λ w own. own.forms) all z.each);
    related = zones.all_related all z.heads.forms z.heads.related;
    apart = zones.all_apart all z.heads.related;
  }

  meta_listed : (s : Schema) → Has (tables_under s) meta
  meta_listed First = inl refl
  meta_listed Second = inl refl
  meta_listed Third = inl refl

  meta_row : IsPermutation (setting_row (number_under r) ∷ []) (c meta.tree)
  meta_row = IsPermutation-trans _ _ _ known.number.same (IsPermutation-sym _ _
      (all_has (λ t. AreRows t (c t.tree) (db.trees t.tree)) (tables_under r) meta held.tables (meta_listed r)).same)

  zones_are : IsPermutation (map zone_row all) (c zone.tree)
  zones_are = zones.zones_are r c db all held z

  entries_are : IsPermutation (flat_map entries_of all) (c entry.tree)
  entries_are = zones.entries_are r c db all held z

  elements_are : IsPermutation (flat_map zelems_of all) (c zelem.tree)
  elements_are = zones.elements_are r c db all held z

-- by which ++VERs the entries were installed
chosen_are : (c : Contents) (db : Database) (all : List NamedZone) → HasContents (schema_under Third) c db
    → HoldsZones Third c all → IsPermutation (flat_map chosen_of all) (c chosen.tree)
chosen_are c db all held z = zones.all_rows Third c db all held z chosen chosen_refers chosen_of z.numbers

-- no table of an earlier schema says more than what an inventory of then has
first_earlier : (c : Contents) (global : Global) → HoldsGlobal First c global → (all : List NamedZone)
    → HoldsZones First c all → IsOfEarlier (record { global = global; zones = all })
first_earlier c global g all z = record {
  singles = g.lists.sysmod_rows.more;
  firsts = All-from_recursion (HoldsNumbers First c) all z.numbers;
}

second_earlier : (c : Contents) (global : Global) → HoldsGlobal Second c global → (all : List NamedZone)
    → HoldsZones Second c all → IsOfEarlier (record { global = global; zones = all })
second_earlier c global g all z = record {
  singles = g.lists.sysmod_rows.more;
  firsts = All-from_recursion (HoldsNumbers Second c) all z.numbers;
}

stands : (r : Schema) (c : Contents) (db : Database) (held : HasContents (schema_under r) c db)
    (known : HasTablesUnder r db) (global : Global) (g : HoldsGlobal r c global) (all : List NamedZone)
    (z : HoldsZones r c all) → StandsUnder r (record { global = global; zones = all }) db
stands First c db held known global g all z = record {
  tables = permuted (schema_under First) c (rows_under First (record { global = global; zones = all })) db (
    meta_row First c db held known global g all z,
    (
      g.lists.sysmod_rows.heads,
      (
        g.lists.sysmod_rows.vers,
        (
          g.lists.sysmod_rows.ifs,
          (
            g.lists.hold_rows,
            (
              g.lists.sysmod_rows.elems,
              (
                zones_are First c db held known global g all z,
                (
                  entries_are First c db held known global g all z,
                  (elements_are First c db held known global g all z, tt),
                ),
              ),
            ),
          ),
        ),
      ),
    ),
  ) held;
  inventory = is_inventory First c db held known global g all z;
  earlier = first_earlier c global g all z;
  sources = short_sources global.sysmods g.lists.formed;
}
stands Second c db held known global g all z = record {
  tables = permuted (schema_under Second) c (rows_under Second (record { global = global; zones = all })) db (
    meta_row Second c db held known global g all z,
    (
      g.lists.sysmod_rows.heads.0,
      (
        g.lists.sysmod_rows.vers,
        (
          g.lists.sysmod_rows.ifs,
          (
            g.lists.hold_rows,
            (
              g.lists.sysmod_rows.elems,
              (
                zones_are Second c db held known global g all z,
                (
                  entries_are Second c db held known global g all z,
                  (
                    elements_are Second c db held known global g all z,
                    (g.lists.sysmod_rows.heads.1, tt),
                  ),
                ),
              ),
            ),
          ),
        ),
      ),
    ),
  ) held;
  inventory = is_inventory Second c db held known global g all z;
  earlier = second_earlier c global g all z;
}
stands Third c db held known global g all z = record {
  tables = permuted (schema_under Third) c (rows_under Third (record { global = global; zones = all })) db (
    meta_row Third c db held known global g all z,
    (
      g.lists.sysmod_rows.heads.0,
      (
        g.lists.sysmod_rows.vers,
        (
          g.lists.sysmod_rows.ifs,
          (
            g.lists.hold_rows,
            (
              g.lists.sysmod_rows.elems,
              (
                zones_are Third c db held known global g all z,
                (
                  entries_are Third c db held known global g all z,
                  (
                    elements_are Third c db held known global g all z,
                    (
                      g.lists.sysmod_rows.heads.1,
                      (
                        g.lists.sysmod_rows.more.0,
                        (
                          g.lists.sysmod_rows.more.1,
                          (chosen_are c db all held z, tt),
                        ),
                      ),
                    ),
                  ),
                ),
              ),
            ),
          ),
        ),
      ),
    ),
  ) held;
  inventory = is_inventory Third c db held known global g all z;
}

-- whatever they hold, it was all read
pub stands_from : (r : Schema) (db : Database) → IsDatabase db → HasTablesUnder r db → HasRowids db
    → ((c : Contents) → HasContents (schema_under r) c db → (global : Global) × HoldsGlobal r c global)
    → ((c : Contents) → HasContents (schema_under r) c db → (all : List NamedZone) × HoldsZones r c all)
    → (i : Inventory) × StandsUnder r i db
stands_from r db sound known rowids globals all_zones =
    let c = rows_at db.trees (tables_under r) in
    let held = has_contents r db known.schema sound rowids in
    let g = globals c held in
    let z = all_zones c held in
    (record { global = g.0; zones = z.0 }, stands r c db held known g.0 g.1 z.0 z.1)
