-- What follows for whoever migrates, and what the next open finds.
use Rattle.std.proofs.Common.{◌≡◌, ◌∷◌, inl, inr, map, Result, Ok, Err, OnErr, IsTrue, sym, ap, subst, arith, ◌∙◌}
use Rattle.std.proofs.Math.Logic.{∥∥₁_map}
use Rattle.std.specs.List.{AllByRecursion}
use Rattle.terms.proofs.Each.{recursion_weaker}
use Rattle.sqlite.specs.Store.{Ghosts}
use Rattle.sqlite.specs.Effect.{Database, IsDatabase}
use Rattle.sqlite.specs.Held.{Held, state}
use Rattle.sqlite.specs.Schema.{Schema as SqliteSchema}
use Rattle.sqlite.specs.State.{HasCleanDisk, KeepsCommit}
use Rattle.sqlite.specs.Table.{Table}
use Rattle.sqlite.specs.Tree.{Trees, rowid}
use Rattle.store_rows.specs.Numbered.{AreNumbered}
use Rattle.store_rows.specs.Rows.{Contents, HasContents, AreRows, shown}
use Rattle.store_schema.specs.declared.error.StoreError.{StoreError}
use Rattle.store_schema.specs.Earlier.{first_rows_of, second_rows_of, IsEarlierStateOf, schema_under}
use Rattle.store_schema.specs.Inventory.{Inventory}
use Rattle.store_schema.specs.Stands.{StandsFor, rows_of}
use Rattle.store_schema.specs.Tables.{store_schema}
use Rattle.store_schema.specs.declared.schema.Schema.TheVariants.{First, Second}
use Rattle.store_schema.proofs.OneState.{one_earlier_state}
use Rattle.store_migration.specs.Migrated.{HasRowids, IsTakenOver, Migrated, Unmigrated, Migrates}
use Rattle.store_migration.specs.Migrated.{NextMigrationFinds, NextOpenFinds}
use Rattle.store.specs.View.{IsEarlierFound, LeavesEarlier}
use Rattle.store.proofs.Reopening.{found_left, found_earlier}
use Rattle.store.proofs.ViewLemmas.{Settled, IsOutside, leaves_committed}

abbrev IsNumbered : Database → Table → Type 0
IsNumbered db t = AreNumbered (map (λ r. rowid r ∷ shown t r) (db.trees t.tree))

rowids_in : (schema : SqliteSchema) (contents : Contents) (db : Database) → HasContents schema contents db
    → HasRowids db
rowids_in schema contents db h =
    subst (λ (s : SqliteSchema). AllByRecursion (IsNumbered db) s.tables) (sym h.schema_is)
    (recursion_weaker (λ t. AreRows t (contents t.tree) (db.trees t.tree)) (IsNumbered db) (λ t rows. rows.numbered)
    schema.tables h.tables)

-- where there is a state, no two rows have one rowid
pub has_rowids : (i : Inventory) (db : Database) → IsEarlierStateOf i db → HasRowids db
has_rowids i db (inl (inl blank)) = subst (λ (s : SqliteSchema). AllByRecursion (IsNumbered db) s.tables)
    (sym blank.0) tt
has_rowids i db (inl (inr stands)) = rowids_in store_schema (rows_of i) db stands.tables
has_rowids i db (inr (inl stands)) = rowids_in (schema_under First) (first_rows_of i) db stands.tables
has_rowids i db (inr (inr stands)) = rowids_in (schema_under Second) (second_rows_of i) db stands.tables

-- and trees that are taken over stand for it
taken_is : (i : Inventory) (was : Database) (db : Trees) → IsEarlierStateOf i was → IsTakenOver was db
    → StandsFor i (record { schema = store_schema; trees = db })
taken_is i was db is taken =
    let it = taken (has_rowids i was is) in
    subst (λ k. StandsFor k (record { schema = store_schema; trees = db })) (one_earlier_state was it.0 i it.1 is) it.2

module _ {S : Type 0} (g : Ghosts S) (old new : Held S) (outside : IsOutside g old) where
  found_now : (i : Inventory) → IsEarlierFound g old i → HasCleanDisk (state g old) → IsTrue (state g old).is_open
      → IsEarlierStateOf i (state g old).now
  found_now i found clean is_open =
      subst (λ (db : Database). IsEarlierStateOf i db) (sym (outside is_open)) (found clean is_open)

  pub is_migrated : {X : Type 0} (x : X) → Settled g new → Migrates g old new (Ok x) → Migrated g old new
  is_migrated x settled m =
      let stands = λ (i : Inventory) (found : IsEarlierFound g old i) (clean : HasCleanDisk (state g new)).
      m.stands clean i (found_now i found (omega (arith, m.crash.clean, clean)) (m.was_open clean
      (m.is_open clean))) in
      record {
        stood = m.stood;
        tables = λ i found clean. (m.is_open clean, (stands i found clean).stands);
        leaves = λ i found db left. leaves_committed g new settled i (m.is_open left.0)
            (λ clean. (stands i found clean).stands) db left;
        same = m.same;
        crash = m.crash;
      }

  pub is_unmigrated : {X : Type 0} (r : Result X StoreError) (e : StoreError) → Settled g old → r ≡ Err e
      → Migrates g old new r → Unmigrated g old new e
  is_unmigrated r e settled failed m = record {
    other = λ clean is. m.other clean (failed ∙ ap (λ z. Err z) is);
    none = λ clean is. m.none clean (failed ∙ ap (λ z. Err z) is);
    unwritten = λ why. elim why [
      | inl is ↦ m.unwritten (inl (failed ∙ ap (λ z. Err z) is))
      | inr is ↦ m.unwritten (inr (failed ∙ ap (λ z. Err z) is))
    ];
    same = λ clean is_open.
        (subst (λ q. OnErr q (KeepsCommit (state g old) (state g new))) failed (m.kept clean)).committed is_open;
    leaves = left;
    crash = m.crash;
    mode = m.mode;
  }
    where
      left : IsTrue (state g old).is_open → (i : Inventory) → IsEarlierFound g old i → LeavesEarlier g new i
      left is_open i found db may =
          let was = state g old in
          let clean : HasCleanDisk was = omega (arith, m.crash.clean, may.0) in
          elim (m.crash.crash may.0 db may.1) [
            | inl before ↦
                let same : db ≡ was.committed.trees = settled db is_open before in
                let is : was.committed ≡ record { schema = was.committed.schema; trees = db } =
                ap (λ trees. record { schema = was.committed.schema; trees = trees }) (sym same) in (
                  was.committed.schema,
                  subst IsDatabase is (m.live is_open).1,
                  subst (IsEarlierStateOf i) is
                      (found clean is_open),
                )
            | inr taken ↦
                let stands = taken_is i was.now db (found_now i found clean is_open) taken in
                (store_schema, stands.tables.sound, inl (inr stands))
          ]

-- ---- the next open

pub next_migration : {S T : Type 0} (g : Ghosts S) (h : Ghosts T) → NextMigrationFinds g h
next_migration g h conn left again why i ended is_open found shows =
    ∥∥₁_map shows.left (λ may. found_earlier g h left again i (ended.leaves is_open i found) shows.live may)

pub next_open : {S T : Type 0} (g : Ghosts S) (h : Ghosts T) → NextOpenFinds g h
next_open g h conn store again i made found shows =
    ∥∥₁_map shows.left (λ may clean is_open.
    let it = found_left g h store again (λ c. c ≡ i) (made.leaves i found) shows.live may is_open in
    inr (subst (λ k. StandsFor k (state h again).committed) it.1 it.2))
