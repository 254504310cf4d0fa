-- From the rows that are written to what is committed, and what a crash leaves.
use Rattle.std.proofs.Common.{◌≡◌, ◌⊎◌, inl, inr, ◌≤◌, ◌++◌, List, Vec, IsTrue, Option, Result, Ok, Err, true, false}
use Rattle.std.proofs.Common.{IfErr, IsErrAnd, IsErrOf, OnOk, OnErr, Bor, arith, refl, sym, ap, subst}
use Rattle.std.specs.declared.alloc.Global.{Global as AnyGlobal}
use Rattle.sqlite.specs.Store.{Ghosts}
use Rattle.sqlite.specs.View.{doubt}
use Rattle.sqlite.specs.Effect.{Database}
use Rattle.sqlite.specs.Tree.{Trees}
use Rattle.sqlite.specs.declared.error.Error.{Error}
use Rattle.sqlite.specs.declared.error.Error.TheVariants.{SqliteFailure}
use Rattle.sqlite.specs.declared.error.ErrorCode.TheVariants.{OutOfMemory}
use Rattle.sqlite.specs.Steps.{FailsToCommit}
use Rattle.sqlite.specs.Held.{Held, state}
use Rattle.sqlite.specs.State.{State, HasCleanDisk, Survives, Shows, KeepsCommit, IsRolledBack}
use Rattle.sqlite.proofs.StateLemmas.{survives_then}
use Rattle.sqlite.proofs.Callers.{survives_begin}
use Rattle.terms.specs.declared.kinds.ZoneKind.{ZoneKind}
use Rattle.terms.specs.Types.{Text, Zone as AZone, Global as AGlobal}
use Rattle.zones_maps.specs.Delta.{ZoneDelta, KnowsStood}
use Rattle.store_rows.specs.Calls.{Call, RunsInside}
use Rattle.store_rows.specs.Inside.{StaysInside}
use Rattle.store_rows.proofs.CallLemmas.{failed_then, failed_before}
use Rattle.store_rows.proofs.Causes.{failed_itself}
use Rattle.store_rows.proofs.InsideLemmas.{on_ok}
use Rattle.store_rows.proofs.Queries.{keeps_then}
use Rattle.store_rows.proofs.Selects.{unchanged_keeps, rolled_keeps}
use Rattle.store_rows.specs.Rows.{HasContents}
use Rattle.store_schema.specs.declared.error.StoreError.{StoreError}
use Rattle.store_schema.specs.declared.error.StoreError.TheVariants.{Fault, Memory}
use Rattle.store_schema.specs.Known.{told}
use Rattle.store_schema.specs.Inventory.{Inventory, IsInventory}
use Rattle.store_schema.specs.Stands.{StandsFor, rows_of}
use Rattle.store_schema.specs.Tables.{store_schema}
use Rattle.store_sysmods.specs.Sysmods.{ChangesGlobal}
use Rattle.store_zones.specs.Zones.{ChangesZone, AddsZone, empty_zone}
use Rattle.store.specs.declared.change.Change.{Change}
use Rattle.store.specs.declared.change.Change.TheVariants.{NewZone, Zone, Global}
use Rattle.sysmods.specs.declared.edit.GlobalEdit.{GlobalEdit}
use Rattle.sysmods.specs.Edits.{EachFits, after_edits}
use Rattle.store.specs.Calls.{calls_of, FailsToWrite}
use Rattle.store.specs.Changes.{Makes}
use Rattle.store.specs.Commits.{IsWritten, OnlyCommits}
use Rattle.store.specs.Writes.{HasEdited, Writes, CommitsChange, IsChangeOutcome}
use Rattle.store.proofs.DeltaLemmas.{is_edited, zone_was}

module _ {S : Type 0} (g : Ghosts S) (old new : Held S) where
  pub zone_written : (name : Text) (kind : ZoneKind) (srel : Text) (related : Option Text)
      → AddsZone g old new (empty_zone name kind srel related) → Writes g old (NewZone name kind srel related) new
  zone_written name kind srel related adds i j added inventory clean contents =
      let was : i ≡ record { global = i.global; zones = added.before ++ added.after } =
      ap (λ zs. record { global = i.global; zones = zs }) added.was in
      subst (λ (k : Inventory). HasContents store_schema (rows_of k) (state g new).now) (sym added.is)
      (adds i.global added.before added.after clean (subst (λ (k : Inventory).
      HasContents store_schema (rows_of k) (state g old).now) was contents))

  pub delta_written : (name : Text) (delta : ZoneDelta)
      → ((zone : AZone) → KnowsStood zone delta → ChangesZone g old new name (HasEdited zone delta))
      → Writes g old (Zone name delta) new
  delta_written name delta changes i j (was, is, change, changed, is_delta, knows) inventory =
      changes was knows i j was is change (is_edited delta was is is_delta
      (zone_was name was is i j inventory change) changed)

  pub edits_written : (stated : Bor AGlobal) (edits : Vec GlobalEdit AnyGlobal)
      → ChangesGlobal g old new (EachFits stated.now edits.items) (after_edits stated.now edits.items)
      → Writes g old (Global stated edits) new
  edits_written stated edits changes i j makes inventory clean was =
      subst (λ (k : Inventory). HasContents store_schema (rows_of k) (state g new).now) (sym makes.1)
      (changes i makes.0 clean was)

-- `old` outside a transaction, `last` at its end, and `done` after the commit
module _ {S : Type 0} (g : Ghosts S) (old last done : Held S) (change : Change)
    (settled : IsTrue (state g old).is_open → (state g old).now ≡ (state g old).committed)
    (inside : StaysInside g (record old { in_transaction = true }) last)
    (written : Writes g (record old { in_transaction = true }) change last) where
  made : (i j : Inventory) → Makes change i j → IsInventory j → HasCleanDisk (state g last)
      → IsTrue (state g old).is_open → StandsFor i (state g old).committed → StandsFor j (state g last).now
  made i j makes inventory clean is_open stands =
      let was : StandsFor i (state g old).now = subst (λ (db : Database). StandsFor i db) (sym (settled is_open)) stands
      in
      record { tables = written i j makes was.inventory clean was.tables; inventory = inventory }

  pub crashed : Survives (state g last) (state g done) (λ db. db ≡ (state g last).now.trees)
      → Survives (state g old) (state g done) (IsChangeOutcome g old change)
  crashed commit =
      survives_then (state g old) (state g last) (state g done) (λ _. ⊥) _ (IsChangeOutcome g old change)
      (λ _ db none. absurd none)
      (λ clean db is. (
        last.schema,
        λ i j makes inventory is_open stands.
            subst (λ (trees : Trees). StandsFor j (record { schema = last.schema; trees = trees })) (sym is)
            (made i j makes inventory (omega (arith, commit.clean)) is_open stands),
      ))
      (survives_begin g old (state g last) (λ _. ⊥) inside.survives) commit

  pub committed : doubt (state g last).is_clean ≤ doubt (state g done).is_clean → HasCleanDisk (state g done)
      → Shows (state g last) (state g done) (state g last).now (state g last).now false
      → CommitsChange g old change done
  committed falls late shows =
      let clean : HasCleanDisk (state g last) = omega (arith, falls, late) in
      let was_open = (inside.kept clean).was_open shows.was_open in
      record {
        was_open = was_open;
        is_open = shows.is_open;
        stands = λ i j makes inventory stands. subst (λ (db : Database). StandsFor j db) (sym shows.committed_is)
            (made i j makes inventory clean was_open stands);
      }

-- ---- why a commit fails

-- what is so of an error is so of the one that is handed on
pub handed_on : {A E : Type 0} (r : Result A E) (e : E) (P : E → Type 0) → IsErrAnd r (λ z. z ≡ e) → P e → IfErr r P
handed_on (Ok a) e P told h = tt
handed_on (Err z) e P told h = subst P (sym told) h

-- an error that is told as a fault, behind a commit
pub told_failed : {A B : Type 0} (r : Result A Error) (q : Result B StoreError) (e : Error) (P : Type 0) → r ≡ Err e
    → IsErrAnd q (λ z. z ≡ told e) → IfErr r (λ e. (e ≡ SqliteFailure OutOfMemory) ⊎ P) → IsErrOf q Fault → P
told_failed r (Ok b) e P is tells h failed = absurd tells
told_failed r (Err z) e P is tells h failed = elim (rw is at h) [
  | inl short ↦ absurd (let memory : told e ≡ Memory = ap told short in cc (tells, memory, failed))
  | inr cause ↦ cause
]

-- what is so after an error
pub kept_failed : {A E : Type 0} (r : Result A E) (e : E) {P : Type 0} → IsErrOf r e → OnErr r P → P
kept_failed (Ok a) e failed h = absurd (cc failed)
kept_failed (Err z) e failed h = h

-- the statements failed, and what they wrote is undone
pub failed_to_write : {S : Type 0} (g : Ghosts S) (old last done : Held S) (change : Change)
    (r : Result Unit Error) (e : Error) {P : Trees → Type 0} → Survives (state g last) (state g done) P → r ≡ Err e
    → HasCleanDisk (state g done) → RunsInside g (calls_of change) (record old { in_transaction = true }) last r
    → (e ≡ SqliteFailure OutOfMemory) ⊎ FailsToWrite g change old done
failed_to_write g old last done change (Err d) e undone is clean runs =
    elim (runs (omega (arith, undone.clean, clean)) refl) [
      | inl short ↦ inl (cc (is, short))
      | inr (inl failed) ↦ inr (inl (failed_before (state g old) (state g last) (state g done) undone failed))
      | inr (inr refused) ↦ inr (inr (last, d, refused))
    ]
failed_to_write g old last done change (Ok x) e undone is clean runs = absurd cc

-- the statements ran, and the commit failed
pub failed_to_commit : {S : Type 0} (g : Ghosts S) (old last done : Held S) (change : Change) (r : Result Unit Error)
    (x : Unit {0}) (e : Error) {P : Trees → Type 0} → StaysInside g (record old { in_transaction = true }) last
    → Survives (state g last) (state g done) P → r ≡ Ok x → HasCleanDisk (state g done)
    → RunsInside g (calls_of change) (record old { in_transaction = true }) last r
    → FailsToCommit (state g last) (state g done) e
    → (e ≡ SqliteFailure OutOfMemory) ⊎ FailsToWrite g change old done
failed_to_commit g old last done change (Ok y) x e inside commit is clean runs (inl fails) =
    elim (failed_itself (state g last) (state g done) ⊥ e fails) [
      | inl short ↦ inl short
      | inr (inl failed) ↦ inr (inl (failed_then (state g old) (state g last) (state g done)
          (survives_begin g old (state g last) (λ _. ⊥) inside.survives) commit clean failed))
      | inr (inr none) ↦ absurd none.0
    ]
failed_to_commit g old last done change (Ok y) x e inside commit is clean runs (inr ended) =
    let running = (runs (omega (arith, commit.clean, clean)) refl).1 in
    absurd (let over = ended.1 in cc)
failed_to_commit g old last done change (Err d) x e inside commit is clean runs fails = absurd cc

-- ---- what is committed, whatever the tables hold

kept_by : {A E : Type 0} (r : Result A E) {P : E → Type 0} {Q : Type 0} → ((e : E) → P e → Q) → IfErr r P → OnErr r Q
kept_by (Ok a) f h = tt
kept_by (Err e) f h = f e h

failed_keeps : (a b : State) (e : Error) → FailsToCommit a b e → KeepsCommit a b
failed_keeps a b e (inl (cause, is, has, back, told)) = rolled_keeps a b back
failed_keeps a b e (inr (is, ended, same)) = unchanged_keeps a b same

module _ {S : Type 0} (g : Ghosts S) (calls : List Call) (old new : Held S) where
  -- `last` is reached in the transaction that is begun at `old`
  module _ (last : Held S) (inside : StaysInside g (record old { in_transaction = true }) last) where
    keeps_old : doubt (state g last).is_clean ≤ doubt (state g new).is_clean → HasCleanDisk (state g new)
        → KeepsCommit (state g last) (state g new) → KeepsCommit (state g old) (state g new)
    keeps_old falls clean kept =
        let both = keeps_then (state g (record old { in_transaction = true })) (state g last) (state g new)
        (inside.kept (omega (arith, falls, clean))) kept in
        record { was_open = both.was_open; committed = both.committed }

    -- the statements failed, and what they wrote is undone
    pub only_undone : {X E : Type 0} (r : Result X E) (P : E → Type 0) → IsErrAnd r P
        → (HasCleanDisk (state g new) → IsRolledBack (state g last) (state g new))
        → Survives (state g last) (state g new) (λ _. ⊥) → OnlyCommits g calls old new r
    only_undone (Err e) P is undone survives = record {
      made = λ clean. tt;
      kept = λ clean. keeps_old survives.clean clean (rolled_keeps (state g last) (state g new) (undone clean));
      crash = survives_then (state g old) (state g last) (state g new) (λ _. ⊥) (λ _. ⊥) (IsWritten g calls old)
          (λ _ db none. absurd none) (λ _ db none. absurd none)
          (survives_begin g old (state g last) (λ _. ⊥) inside.survives) survives;
    }
    only_undone (Ok x) P is undone survives = absurd is

    -- the statements ran, and the commit ended so
    pub only_committed : {A : Type 0} (q : Result A Error) (x : A) (r : Result Unit Error) → q ≡ Ok x
        → RunsInside g calls (record old { in_transaction = true }) last q
        → Survives (state g last) (state g new) (λ db. db ≡ (state g last).now.trees)
        → (HasCleanDisk (state g new)
        → OnOk r (Shows (state g last) (state g new) (state g last).now (state g last).now false))
        → (HasCleanDisk (state g new) → IfErr r (FailsToCommit (state g last) (state g new)))
        → OnlyCommits g calls old new r
    only_committed (Err d) x r is runs survives ok err = absurd cc
    only_committed (Ok w) x r is runs survives ok err =
        let falls = survives.clean in
        record {
          made = λ clean. on_ok r _ _ (λ shows. record {
            last = last;
            ran = (runs (omega (arith, falls, clean)) refl).0;
            was_open = (inside.kept (omega (arith, falls, clean))).was_open shows.was_open;
            is_open = shows.is_open;
            committed = shows.committed_is;
          }) (ok clean);
          kept = λ clean. kept_by r (λ e fails. keeps_old falls clean
              (failed_keeps (state g last) (state g new) e fails)) (err clean);
          crash = survives_then (state g old) (state g last) (state g new) (λ _. ⊥) _ (IsWritten g calls old)
              (λ _ db none. absurd none) (λ clean db is. (last, (runs (omega (arith, falls, clean)) refl).0, is))
              (survives_begin g old (state g last) (λ _. ⊥) inside.survives) survives;
        }

  -- what is so of the call is so of the one that hands its answer on
  pub only_answered : {X Y E F : Type 0} (q : Result X E) (x : X) (y : Y) → q ≡ Ok x → OnlyCommits g calls old new q
      → OnlyCommits g calls old new {E = F} (Ok y)
  only_answered (Ok w) x y is only = record { made = only.made; kept = λ clean. tt; crash = only.crash }
  only_answered (Err d) x y is only = absurd cc

  pub only_failed : {X Y E F : Type 0} (q : Result X E) (e : E) (r : Result Y F) (P : F → Type 0) → q ≡ Err e
      → IsErrAnd r P → OnlyCommits g calls old new q → OnlyCommits g calls old new r
  only_failed (Err d) e (Err z) P is failed only = record { made = λ clean. tt; kept = only.kept; crash = only.crash }
  only_failed (Err d) e (Ok y) P is failed only = absurd failed
  only_failed (Ok w) e r P is failed only = absurd cc
