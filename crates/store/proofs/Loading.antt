-- A load, from what its queries read.
use Rattle.std.proofs.Common.{◌≡◌, ◌≢◌, List, Result, Ok, Err, IfOk, OnOk, arith, refl, sym, subst, inl, inr}
use Rattle.std.specs.Prelude.{IsErrOf, IfErr, OnErr}
use Rattle.sqlite.specs.Store.{Ghosts}
use Rattle.sqlite.specs.Tree.{Trees}
use Rattle.sqlite.specs.Held.{Held, state}
use Rattle.sqlite.specs.State.{HasCleanDisk, IsUnchanged, Survives}
use Rattle.store_rows.specs.declared.error.ReadError.{ReadError}
use Rattle.store_rows.specs.declared.error.ReadError.TheVariants as read
use Rattle.store_rows.specs.Reads.{OnlyReads}
use Rattle.store_rows.specs.Rows.{Contents, HasContents}
use Rattle.terms.specs.Types.{Sysmod, Hold, Global, a_global}
use Rattle.terms.specs.Global.{IsGlobal}
use Rattle.store_schema.specs.declared.schema.Schema.TheVariants.{Third}
use Rattle.store_schema.specs.declared.error.StoreError.{StoreError}
use Rattle.store_schema.specs.declared.error.StoreError.TheVariants.{Fault, OtherSchema, NoState}
use Rattle.store_schema.specs.Inventory.{Inventory}
use Rattle.store_schema.specs.Stands.{StandsFor}
use Rattle.store_schema.specs.Tables.{store_schema}
use Rattle.store.specs.BadRows.{FoundNoState}
use Rattle.store.specs.Loads.{Loads, told}
use Rattle.store.specs.View.{Tables, TablesIfOpen, MayLeave}
use Rattle.store.specs.Whole.{HoldsLists, HoldsGlobal, ShowsGlobal}
use Rattle.store.proofs.ViewLemmas.{Settled, IsOutside, still_open}

-- what the queries of a load say
abbrev pub HasFound : {S X : Type 0} → Ghosts S → (Inventory → X → Type 0) → Held S → Held S → Result X ReadError
    → Type 0
HasFound g Found old new r =
    HasCleanDisk (state g new) → (i : Inventory) → StandsFor i (state g old).now → IfOk r (Found i)

abbrev pub HasFoundNone : {S X : Type 0} → Ghosts S → Held S → Held S → Result X ReadError → Type 0
HasFoundNone g old new r =
    HasCleanDisk (state g new) → IsErrOf r read.BadRow → (i : Inventory) → ¬ StandsFor i (state g old).now

module _ {S X : Type 0} (g : Ghosts S) (Found : Inventory → X → Type 0) (old new : Held S)
    (outside : IsOutside g old) (settled : Settled g new) where
  was_clean : (r : Result X ReadError) → OnlyReads g store_schema read.BadRow read.Fault old new r
      → HasCleanDisk (state g new) → HasCleanDisk (state g old)
  was_clean r reads clean = omega (arith, reads.crash.clean, clean)

  lost : (r : Result X ReadError) → OnlyReads g store_schema read.BadRow read.Fault old new r → (db : Trees)
      → MayLeave g new db → MayLeave g old db
  lost r reads db left = elim (reads.crash.crash left.0 db left.1) [
    | inl before ↦ (was_clean r reads left.0, before)
    | inr none ↦ absurd none
  ]

  -- A load that failed committed nothing.
  failed : (r : Result X ReadError) → OnlyReads g store_schema read.BadRow read.Fault old new r → (i : Inventory)
      → Tables g old i → TablesIfOpen g new i
  failed r reads i tables = still_open g new settled i (λ clean is_open.
      subst (StandsFor i) (sym ((reads.kept clean).committed is_open)) (tables (was_clean r reads clean)).1)

  -- One that answered left the tables as they were.
  stays : (r : Result X ReadError) → OnlyReads g store_schema read.BadRow read.Fault old new r
      → OnOk r ((i : Inventory) → Tables g old i → Tables g new i)
  stays (Ok x) reads = λ i tables clean.
      let it = reads.same clean in
      (it.0.is_open, subst (StandsFor i) (sym it.0.committed_is) (tables (was_clean _ reads clean)).1)
  stays (Err e) reads = tt

  bad_row : IsUnchanged (state g old) (state g new) → Survives (state g old) (state g new) (λ _. ⊥)
      → ((i : Inventory) → ¬ StandsFor i (state g old).now) → FoundNoState g old new
  bad_row unchanged crash none = record {
    loads = record {
      was_open = λ clean is_open. unchanged.0.was_open;
      same = λ clean is_open. unchanged;
      crash = crash;
    };
    was_open = unchanged.0.was_open;
    none = λ i stands. none i (subst (StandsFor i) (sym (outside unchanged.0.was_open)) stands);
  }

  -- ---- how the result is told

  told_ok : (r : Result X ReadError) (P : Type 0) → OnOk r P → OnOk (told r) P
  told_ok (Ok x) P h = h
  told_ok (Err e) P h = tt

  told_if : (r : Result X ReadError) (P : X → Type 0) → IfOk r P → IfOk (told r) P
  told_if (Ok x) P h = h
  told_if (Err e) P h = tt

  told_err : (r : Result X ReadError) (P : Type 0) → P → OnErr (told r) P
  told_err (Ok x) P h = tt
  told_err (Err e) P h = h

  told_bad : (r : Result X ReadError) → IsErrOf (told r) NoState → IsErrOf r read.BadRow
  told_bad (Ok x) bad = absurd (cc bad)
  told_bad (Err read.BadRow) bad = refl
  told_bad (Err read.Memory) bad = absurd (cc bad)
  told_bad (Err read.Fault) bad = absurd (cc bad)

  told_fault : (r : Result X ReadError) → IsErrOf (told r) Fault → IsErrOf r read.Fault
  told_fault (Ok x) failed = absurd (cc failed)
  told_fault (Err read.BadRow) failed = absurd (cc failed)
  told_fault (Err read.Memory) failed = absurd (cc failed)
  told_fault (Err read.Fault) failed = refl

  told_which : (r : Result X ReadError) → IfErr (told r) (λ e. e ≢ OtherSchema)
  told_which (Ok x) = tt
  told_which (Err read.BadRow) = λ is. absurd (cc is)
  told_which (Err read.Memory) = λ is. absurd (cc is)
  told_which (Err read.Fault) = λ is. absurd (cc is)

  by : (r : Result X ReadError) → OnlyReads g store_schema read.BadRow read.Fault old new r → HasFound g Found old new r
      → HasFoundNone g old new r → Loads g old new Found (told r)
  by r reads found none = record {
    found = λ clean i tables.
        let was = tables (was_clean r reads clean) in
        told_if r (Found i) (found clean i (subst (StandsFor i) (sym (outside was.0)) was.1));
    none = λ clean bad. bad_row (reads.bad clean (told_bad r bad)) reads.crash (none clean (told_bad r bad));
    reads = record {
      same = λ clean. told_ok r _ (reads.same clean);
      bad = λ clean bad. reads.bad clean (told_bad r bad);
      cause = λ clean failed. reads.cause clean (told_fault r failed);
      kept = reads.kept;
      crash = reads.crash;
      mode = reads.mode;
    };
    cause = λ clean failed i tables.
        let was = tables (was_clean r reads clean) in
        let stands = subst (StandsFor i) (sym (outside was.0)) was.1 in
        record {
          moment = old;
          since = (omega arith, refl);
          is_open = was.0;
          stands = stands;
          kept = reads.kept clean;
          why = elim (reads.cause clean (told_fault r failed) stands.tables.schema_is) [
            | inl (inl more) ↦ inl more
            | inl (inr shut) ↦ absurd (let is_open = was.0 in cc)
            | inr limited ↦ inr (inl limited)
          ];
        };
    same = told_ok r _ (stays r reads);
    err = told_err r _ (failed r reads);
    which = told_which r;
    crash = λ i tables. lost r reads;
    clean = was_clean r reads;
  }

-- lists that are joined, as the rows of a global zone
pub shows_joined : {S : Type 0} (g : Ghosts S) (at : Held S) (sysmods : List Sysmod) (holds : List Hold)
    (r : Result Global ReadError)
    → ((contents : Contents) → HasContents store_schema contents (state g at).now
    → HoldsLists Third contents sysmods holds)
    → IfOk r (λ global. global ≡ a_global sysmods holds) → OnOk r (IsGlobal (a_global sysmods holds))
    → IfOk r (ShowsGlobal g at)
shows_joined g at sysmods holds (Ok global) rows same whole = λ contents has.
    subst (HoldsGlobal Third contents) (sym same) (record { lists = rows contents has; whole = whole })
shows_joined g at sysmods holds (Err e) rows same whole = tt

answer_told : {X : Type 0} (r : Result X ReadError) (P : X → Type 0) → IfOk r P → IfOk (told r) P
answer_told (Ok x) P h = h
answer_told (Err e) P h = tt

-- what an answer says of any rows
pub for_all_rows : {S X : Type 0} (g : Ghosts S) (at : Held S) (r : Result X ReadError) (Says : Contents → X → Type 0)
    → ((contents : Contents) → HasContents store_schema contents (state g at).now → IfOk r (Says contents))
    → IfOk r (λ x. (contents : Contents) → HasContents store_schema contents (state g at).now → Says contents x)
for_all_rows g at (Ok x) Says each = λ contents has. each contents has
for_all_rows g at (Err e) Says each = tt

-- what the rows say of an answer that is told
pub rows_told : {S X : Type 0} (Says : Held S → X → Type 0) (conn old : Held S) → conn ≡ old → (r : Result X ReadError)
    (result : Result X StoreError) → result ≡ told r → IfOk r (Says conn) → IfOk result (Says old)
rows_told {X = X} Says conn old same r result is found =
    subst (λ h. IfOk result (Says h)) same
    (subst (λ (x : Result X StoreError). IfOk x (Says conn)) (sym is) (answer_told r (Says conn) found))

-- a load of a store, whose connection it reads
pub loads_by : {S X : Type 0} (g : Ghosts S) (Found : Inventory → X → Type 0) (conn old new : Held S) → conn ≡ old
    → IsOutside g conn → Settled g new → (r : Result X ReadError)
    → OnlyReads g store_schema read.BadRow read.Fault conn new r
    → HasFound g Found conn new r → HasFoundNone g conn new r → (result : Result X StoreError) → result ≡ told r
    → Loads g old new Found result
loads_by {S = S} {X = X} g Found conn old new same outside settled r reads found none result is =
    subst (λ (h : Held S). Loads g h new Found result) same
    (subst (λ (x : Result X StoreError). Loads g conn new Found x) (sym is)
    (by g Found conn new outside settled r reads found none))
