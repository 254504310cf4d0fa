-- What follows for a store's callers.
use Rattle.std.proofs.Common.{◌≡◌, ◌⊎◌, inl, inr, refl, IsTrue, arith, sym, ap, subst}
use Rattle.sqlite.specs.Store.{Ghosts}
use Rattle.sqlite.specs.Tree.{Trees}
use Rattle.sqlite.specs.Schema.{Schema}
use Rattle.sqlite.specs.Effect.{IsDatabase}
use Rattle.sqlite.specs.Held.{Held, state}
use Rattle.sqlite.specs.State.{HasCleanDisk, KeepsCommit, Survives, IsLive}
use Rattle.store_schema.specs.Create.{IsBlank}
use Rattle.store_schema.specs.Inventory.{Inventory, IsInventory, empty_inventory}
use Rattle.store_schema.specs.Stands.{StandsFor, IsStateOf, IsSetUp}
use Rattle.store_schema.specs.Tables.{store_schema}
use Rattle.store_schema.proofs.OneState.{one_state}
use Rattle.store.specs.declared.change.Change.{Change}
use Rattle.store.specs.Calls.{FailsToWrite}
use Rattle.store.specs.Causes.{HasCause}
use Rattle.store.specs.Changes.{Makes}
use Rattle.store.specs.View.{Tables, TablesIfOpen, IsFound, MayLeave, Leaves, LeavesFound}
use Rattle.store.specs.Writes.{CommitsChange, IsChangeOutcome}

-- the schema that a database with an inventory has
pub own_schema : (i : Inventory) (schema : Schema) (db : Trees) → StandsFor i (record { schema = schema; trees = db })
    → StandsFor i (record { schema = store_schema; trees = db })
own_schema i schema db stands =
    subst (λ (s : Schema). StandsFor i (record { schema = s; trees = db })) stands.tables.schema_is stands

-- what a crash of an open connection leaves
abbrev pub Settled : {S : Type 0} → Ghosts S → Held S → Type 0
Settled g at =
    (db : Trees) → IsTrue (state g at).is_open → (state g at).may_leave db → db ≡ (state g at).committed.trees

-- what the connection shows is what it last committed
abbrev pub IsOutside : {S : Type 0} → Ghosts S → Held S → Type 0
IsOutside g at = IsTrue (state g at).is_open → (state g at).now ≡ (state g at).committed

module _ {S : Type 0} (g : Ghosts S) (at : Held S) (settled : Settled g at) (i : Inventory) where
  -- A crash of an open connection leaves what was last committed.
  pub leaves_committed : IsTrue (state g at).is_open → (HasCleanDisk (state g at) → StandsFor i (state g at).committed)
      → Leaves g at (λ c. c ≡ i)
  leaves_committed is_open stands db left =
      let same : db ≡ (state g at).committed.trees = settled db is_open left.1 in
      let schema = (state g at).committed.schema in (
        i,
        refl,
        own_schema i schema db (subst (λ trees. StandsFor i (record { schema = schema; trees = trees })) (sym same)
            (stands left.0)),
      )

  -- so where a fault has not shut it, it keeps what the tables stand for
  pub still_open : (HasCleanDisk (state g at) → IsTrue (state g at).is_open → StandsFor i (state g at).committed)
      → TablesIfOpen g at i
  still_open stands is_open = (
    λ clean. (is_open, stands clean is_open),
    leaves_committed is_open (λ clean. stands clean is_open),
  )

-- At the exit of a commit a crash leaves what it left before, or the changed inventory.
module _ {S : Type 0} (g : Ghosts S) (conn old new : Held S) (change : Change) (same : conn ≡ old)
    (survives : Survives (state g conn) (state g new) (IsChangeOutcome g conn change)) where
  from_old : Survives (state g old) (state g new) (IsChangeOutcome g old change)
  from_old = subst (λ h. Survives (state g h) (state g new) (IsChangeOutcome g h change)) same survives

  pub leaves_either : (i j : Inventory) → Makes change i j → IsInventory j → Tables g old i → (db : Trees)
      → MayLeave g new db → MayLeave g old db ⊎ StandsFor j (record { schema = store_schema; trees = db })
  leaves_either i j makes inventory tables db left =
      let clean : HasCleanDisk (state g old) = omega (arith, from_old.clean, left.0) in
      let was = tables clean in
      elim (from_old.crash left.0 db left.1) [
        | inl before ↦ inl (clean, before)
        | inr done ↦ inr (own_schema j done.0 db (done.1 i j makes inventory was.0 was.1))
      ]

  -- the cause of a fault
  pub faulted_before : IsOutside g conn → HasCleanDisk (state g new) → KeepsCommit (state g old) (state g new)
      → FailsToWrite g change old new → (i : Inventory) → Tables g old i → HasCause g old new i (λ own. own ≡ change)
  faulted_before outside clean kept fails i tables =
      let was = tables (omega (arith, from_old.clean, clean)) in
      record {
        moment = old;
        since = (omega arith, refl);
        is_open = was.0;
        stands = subst (StandsFor i) (sym (subst (IsOutside g) same outside was.0)) was.1;
        kept = kept;
        why = elim fails [
          | inl (inl failed) ↦ inl failed
          | inl (inr shut) ↦ absurd (let is_open = was.0 in cc)
          | inr refused ↦ inr (inr (change, refl, refused))
        ];
      }

  -- and once it has returned, the changed inventory alone
  pub leaves_changed : Settled g new → (HasCleanDisk (state g new) → CommitsChange g conn change new)
      → (i j : Inventory) → Makes change i j → IsInventory j → Tables g old i → Leaves g new (λ c. c ≡ j)
  leaves_changed settled made i j makes inventory tables db left =
      let clean : HasCleanDisk (state g old) = omega (arith, from_old.clean, left.0) in
      let done = subst (λ h. CommitsChange g h change new) same (made left.0) in
      leaves_committed g new settled j done.is_open
      (λ _. done.stands i j makes inventory (tables clean).1) db left

-- After an error of `open` a crash leaves the state that was found, perhaps as tables that were made.
pub leaves_found : {S : Type 0} (g : Ghosts S) (old new : Held S) → Settled g old → IsLive (state g old)
    → (IsTrue (state g old).is_open → (state g old).now ≡ (state g old).committed)
    → Survives (state g old) (state g new) (IsSetUp (state g old).now) → IsTrue (state g old).is_open → (i : Inventory)
    → IsFound g old i → LeavesFound g new i
leaves_found g old new settled live outside survives is_open i found db left =
    let was = state g old in
    let clean : HasCleanDisk was = omega (arith, survives.clean, left.0) in
    let state_is = found clean is_open in
    elim (survives.crash left.0 db left.1) [
      | inl before ↦
          let same : db ≡ was.committed.trees = settled db is_open before in
          let is : was.committed ≡ record { schema = was.committed.schema; trees = db } =
          ap (λ trees. record { schema = was.committed.schema; trees = trees }) (sym same) in
          (was.committed.schema, subst IsDatabase is (live is_open).1, subst (IsStateOf i) is state_is)
      | inr made ↦
          let blank : IsBlank was.committed = subst IsBlank (outside is_open) made.0 in
          let is : empty_inventory ≡ i = one_state was.committed empty_inventory i (inl (blank, refl)) state_is in (
            store_schema,
            made.1.tables.sound,
            inr (subst (λ k. StandsFor k (record { schema = store_schema; trees = db })) is made.1),
          )
    ]
