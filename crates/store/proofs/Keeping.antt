-- What a store keeps behind a load or a commit, and how a call ends by it.
use Rattle.std.proofs.Common.{◌≡◌, ◌⊎◌, Result, Ok, Err, refl, inl, inr}
use Rattle.std.specs.Prelude.{IfErr, IsErrOf, OnOk, OnErr}
use Rattle.sqlite.specs.Store.{Ghosts}
use Rattle.sqlite.specs.Tree.{Trees}
use Rattle.sqlite.specs.Held.{Held, state}
use Rattle.sqlite.specs.State.{HasCleanDisk}
use Rattle.machine.specs.State.{State}
use Rattle.machine.specs.Machine.{Act}
use Rattle.store_schema.specs.Inventory.{Inventory, IsInventory}
use Rattle.store_schema.specs.Stands.{StandsFor}
use Rattle.store_schema.specs.Tables.{store_schema}
use Rattle.store_schema.specs.declared.error.StoreError.{StoreError}
use Rattle.store_schema.specs.declared.error.StoreError.TheVariants.{Fault, OtherSchema, NoState, Memory}
use Rattle.store.specs.Causes.{IsLater, HasCause}
use Rattle.store.specs.Changes.{Makes}
use Rattle.store.specs.Loads.{Loads}
use Rattle.store.specs.declared.change.Change.{Change}
use Rattle.store.specs.View.{Tables, TablesIfOpen, MayLeave, Leaves}
use Rattle.store.proofs.Successive.{cause_since}
use Rattle.store.specs.CallEnds.{StillKeeps, FailsCall, EndsCall, EndsLoad, EndsCommit, FailsAct}
use Rattle.store.specs.Kept.{kept, Keeps, IsAfter, LeadsOn}

-- what is kept is an inventory
pub inventory_kept : {S : Type 0} (g : Ghosts S) (at : Held S) (s : State) → Keeps g at s → HasCleanDisk (state g at)
    → IsInventory (kept s)
inventory_kept g at s keeps clean = (keeps.now clean).1.inventory

-- what a crash leaves is among more
pub leaves_more : {S : Type 0} (g : Ghosts S) (at : Held S) (P Q : Inventory → Type 0) → ((c : Inventory) → P c → Q c)
    → Leaves g at P → Leaves g at Q
leaves_more g at P Q more leaves db left = let it = leaves db left in (it.0, more it.0 it.1, it.2)

-- a cause by changes that are others too
cause_more : {S : Type 0} (g : Ghosts S) (old at : Held S) (i : Inventory) (IsOwn More : Change → Type 0)
    → ((change : Change) → IsOwn change → More change) → HasCause g old at i IsOwn → HasCause g old at i More
cause_more g old at i IsOwn More more cause = record {
  moment = cause.moment;
  since = cause.since;
  is_open = cause.is_open;
  stands = cause.stands;
  kept = cause.kept;
  why = elim cause.why [
    | inl failed ↦ inl failed
    | inr (inl limited) ↦ inr (inl limited)
    | inr (inr (change, own, refused)) ↦ inr (inr (change, more change own, refused))
  ];
}

module _ {S : Type 0} (g : Ghosts S) (at : Held S) (s : State) where
  pub still_kept : (More : Inventory → Type 0) → Keeps g at s → StillKeeps g at s More
  still_kept More keeps = record {
    now = λ shown. (keeps.now, keeps.crash);
    crash = leaves_more g at _ _ (λ c is. inl is) keeps.crash;
  }

  -- a crash leaves what is among more
  pub still_more : (More Most : Inventory → Type 0) → ((c : Inventory) → More c → Most c) → StillKeeps g at s More
      → StillKeeps g at s Most
  still_more More Most more still = record {
    now = still.now;
    crash = leaves_more g at _ _ (λ c either. elim either [
      | inl same ↦ inl same
      | inr other ↦ inr (more c other)
    ]) still.crash;
  }

-- ---- a call that failed

module _ {S : Type 0} (g : Ghosts S) (old at : Held S) (s : State) where
  -- with changes that are others too
  pub failed_more : (More Most : Inventory → Type 0) (IsMine IsOwn : Change → Type 0)
      → ((c : Inventory) → More c → Most c) → ((change : Change) → IsMine change → IsOwn change) → (e : StoreError)
      → FailsCall g old at s More IsMine e → FailsCall g old at s Most IsOwn e
  failed_more More Most IsMine IsOwn more own Fault faulted = record {
    still = still_more g at s More Most more faulted.still;
    cause = cause_more g old at (kept s) IsMine IsOwn own faulted.cause;
  }
  failed_more More Most IsMine IsOwn more own OtherSchema none = none
  failed_more More Most IsMine IsOwn more own NoState none = none
  failed_more More Most IsMine IsOwn more own Memory still = still_more g at s More Most more still

  -- a load of an act
  pub act_unmoved : (a : Act) (e : StoreError) → FailsCall g old at s (λ _. ⊥) (λ _. ⊥) e → FailsAct g old at s a e
  act_unmoved a e failed =
      failed_more (λ _. ⊥) (IsAfter s a) (λ _. ⊥) (LeadsOn s a) (λ c none. absurd none) (λ change none. absurd none) e
      failed

-- behind others of one that began at `old`
module _ {S : Type 0} (g : Ghosts S) (old mid at : Held S) (s : State) (later : IsLater g old mid) where
  pub failed_since : (More : Inventory → Type 0) (IsMine : Change → Type 0) (e : StoreError)
      → FailsCall g mid at s More IsMine e → FailsCall g old at s More IsMine e
  failed_since More IsMine Fault faulted = record {
    still = faulted.still;
    cause = cause_since g old mid at later (kept s) IsMine faulted.cause;
  }
  failed_since More IsMine OtherSchema none = none
  failed_since More IsMine NoState none = none
  failed_since More IsMine Memory still = still

  pub ended_since : {X : Type 0} (More : Inventory → Type 0) (IsMine : Change → Type 0) (IsDone : X → Type 0)
      (r : Result X StoreError) → EndsCall g mid at s More IsMine IsDone r → EndsCall g old at s More IsMine IsDone r
  ended_since More IsMine IsDone (Ok x) done = done
  ended_since More IsMine IsDone (Err e) failed = failed_since More IsMine e failed

-- ---- loads and commits

module _ {S : Type 0} (g : Ghosts S) (old new : Held S) (s : State) where
  pub loaded : {X : Type 0} (Found : Inventory → X → Type 0) (result : Result X StoreError)
      → HasCleanDisk (state g new) → Loads g old new Found result → Keeps g old s
      → EndsLoad g old new s (Found (kept s)) result
  loaded {X = X} Found result clean loads keeps = by result loads
    where
      unmoved : (r : Result X StoreError) → Loads g old new Found r → TablesIfOpen g new (kept s)
          → StillKeeps g new s (λ _. ⊥)
      unmoved r loads now = record {
        now = now;
        crash = λ db left. leaves_more g old _ _ (λ c is. inl is) keeps.crash db
            (loads.crash (kept s) keeps.now db left);
      }

      by : (r : Result X StoreError) → Loads g old new Found r → EndsLoad g old new s (Found (kept s)) r
      by (Ok x) loads = (
        loads.found clean (kept s) keeps.now,
        record {
          now = loads.same (kept s) keeps.now;
          crash = λ db left. keeps.crash db (loads.crash (kept s) keeps.now db left);
        },
      )
      by (Err Fault) loads = record {
        still = unmoved _ loads (loads.err (kept s) keeps.now);
        cause = loads.cause clean refl (kept s) keeps.now;
      }
      by (Err OtherSchema) loads = loads.which refl
      by (Err NoState) loads = (loads.none clean refl).none (kept s) (keeps.now (loads.clean clean)).1
      by (Err Memory) loads = unmoved _ loads (loads.err (kept s) keeps.now)

  -- the clauses of a commit of what makes t
  module _ (change : Change) (t : State) (keeps : Keeps g old s) (makes : Makes change (kept s) (kept t))
      (is : IsInventory (kept t)) where
    abbrev CommitsOnce : Type 0
    CommitsOnce =
        (i j : Inventory) → Makes change i j → IsInventory j → Tables g old i → (db : Trees) → MayLeave g new db
        → MayLeave g old db ⊎ StandsFor j (record { schema = store_schema; trees = db })

    unsettled : CommitsOnce → TablesIfOpen g new (kept s) → StillKeeps g new s (λ c. c ≡ kept t)
    unsettled lost err = record {
      now = err;
      crash = λ db left. elim (lost (kept s) (kept t) makes is keeps.now db left) [
        | inl before ↦ leaves_more g old _ _ (λ c is. inl is) keeps.crash db before
        | inr done ↦ (kept t, inr refl, done)
      ];
    }

    pub committed : (result : Result (Unit {0}) StoreError)
        → OnOk result ((i j : Inventory) → Makes change i j → IsInventory j → Tables g old i → Tables g new j)
        → OnOk result ((i j : Inventory) → Makes change i j → IsInventory j → Tables g old i
        → Leaves g new (λ c. c ≡ j))
        → OnErr result ((i : Inventory) → Tables g old i → TablesIfOpen g new i)
        → CommitsOnce
        → IfErr result (λ e. (e ≡ Fault) ⊎ (e ≡ Memory))
        → (IsErrOf result Fault → HasCause g old new (kept s) (λ own. own ≡ change))
        → EndsCommit g old new s t change tt result
    committed (Ok x) ok durable err lost which cause = (
      refl,
      record {
        now = ok (kept s) (kept t) makes is keeps.now;
        crash = durable (kept s) (kept t) makes is keeps.now;
      },
    )
    committed (Err Fault) ok durable err lost which cause = record {
      still = unsettled lost (err (kept s) keeps.now);
      cause = cause refl;
    }
    committed (Err OtherSchema) ok durable err lost which cause = elim which [
      | inl e ↦ absurd (cc e)
      | inr e ↦ absurd (cc e)
    ]
    committed (Err NoState) ok durable err lost which cause = elim which [
      | inl e ↦ absurd (cc e)
      | inr e ↦ absurd (cc e)
    ]
    committed (Err Memory) ok durable err lost which cause = unsettled lost (err (kept s) keeps.now)
