-- A query whose rows are read one at a time.
use Rattle.std.proofs.Common.{◌≡◌, ◌≢◌, ◌⊎◌, inl, inr, ℕ, length, List, [], ◌∷◌, ◌++◌, Ok, Err, Some, None, Option, Result}
use Rattle.std.proofs.Common.{false, map, IsErrOf, IsPermutation, arith, refl, sym, ap, subst, ◌∙◌}
use Rattle.std.specs.List.{AllByRecursion}
use Rattle.std.proofs.lemmas.List.{map-append}
use Rattle.sqlite.specs.declared.error.Error.{Error}
use Rattle.sqlite.specs.declared.error.Error.TheVariants.{SqliteFailure}
use Rattle.sqlite.specs.declared.error.ErrorCode.TheVariants.{OutOfMemory}
use Rattle.sqlite.specs.Store.{Ghosts}
use Rattle.sqlite.specs.Order.{Row}
use Rattle.sqlite.specs.Schema.{Schema}
use Rattle.sqlite.specs.Table.{Table}
use Rattle.sqlite.specs.Tree.{Trees}
use Rattle.sqlite.specs.Effect.{Database}
use Rattle.sqlite.specs.Given.{HasGiven, HasBegun, Advances, FailsToAdvance, Returns, IsPlain}
use Rattle.sqlite.specs.Held.{Held, state}
use Rattle.sqlite.specs.Listing.{understood}
use Rattle.sqlite.specs.State.{State, HasCleanDisk, IsUnchanged, KeepsCommit, Survives}
use Rattle.sqlite.specs.State.{CommitsShowing, IsStatement}
use Rattle.sqlite.proofs.Callers.{command_of, EndsIn, given_begin, begins_shown}
use Rattle.sqlite.proofs.StateLemmas.{survives_then, survives_weaker}
use Rattle.sqlite_resolve.specs.declared.compiled.Compiled.{Compiled}
use Rattle.sqlite_resolve.specs.declared.error.CompileError.{CompileError}
use Rattle.store_rows.specs.Reads.{OnlyReads, FailsToRead}
use Rattle.store_rows.specs.Rows.{AreFound}
use Rattle.store_rows.specs.Selects.{IsSelect}
use Rattle.store_rows.specs.Texts.{ReadsRows, AreTexts}
use Rattle.store_rows.proofs.Causes.{failed_by}
use Rattle.store_rows.proofs.InsideLemmas.{on_ok_of}
use Rattle.store_rows.proofs.Queries.{unchanged_then, keeps_then, failed_later}
use Rattle.store_rows.proofs.ReadLemmas.{found_in}
use Rattle.store_rows.proofs.Selects.{select_silent, failed_keeps, unchanged_keeps, itself}

-- ---- texts that return nothing

plain_silent : (r : Result Compiled CompileError) → IsPlain r → ¬ Returns r
plain_silent (Ok c) plain some = absurd (let none = rw plain.0 at some in cc)
plain_silent (Err e) plain some = plain

silent_if : (r : Result Compiled CompileError) → ((c : Compiled) → r ≡ Ok c → c.returning ≡ None) → ¬ Returns r
silent_if (Ok c) none some = absurd (let none = rw (none c refl) at some in cc)
silent_if (Err e) none some = some

pub select_returns_none : (sql : List ℕ) (key : Row) (schema : Schema) → IsSelect sql → ¬ Returns (understood schema sql)
select_returns_none sql key schema select = silent_if (understood schema sql) (select_silent sql key select schema)

pub reads_returns_none : (schema known : Schema) (table : Table) (width : ℕ) (sql : List ℕ)
    → ReadsRows schema table width sql → known ≡ schema → ¬ Returns (understood known sql)
reads_returns_none schema known table width sql text has =
    plain_silent (understood known sql) (subst (λ s. IsPlain (understood s sql)) (sym has) text.plain)

commits_none : (sql : List ℕ) (key : Row) (s : State) (db : Trees) → ¬ Returns (understood s.now.schema sql)
    → ¬ CommitsShowing sql key s db
unfolding CommitsShowing
commits_none sql key s db silent h = silent (subst Returns (sym h.1.is) h.2)

-- ---- the rows so far

-- The query gave these rows, and nothing else came of it.
pub record IsUnderWay {S : Type 0} (g : Ghosts S) (sql : List ℕ) (key : Row) (old now : Held S) (rows : List Row) :
    Type 0 where
  pub survives : Survives (state g old) (state g now) (λ _. ⊥)
  pub given : HasCleanDisk (state g now) → HasGiven g sql key now rows × IsUnchanged (state g old) (state g now)

module _ {S : Type 0} (g : Ghosts S) (sql : List ℕ) (key : Row) (old : Held S) where
  at_start : (now : Held S) → ¬ Returns (understood old.schema sql) → HasBegun g sql key old now
      → HasGiven g sql key now [] × IsUnchanged (state g old) (state g now)
  at_start now silent (inl h) = h
  at_start now silent (inr h) = absurd (silent h.0)

  pub none_yet : (now : Held S) → (HasCleanDisk (state g now) → HasBegun g sql key old now)
      → Survives (state g old) (state g now) (CommitsShowing sql key (state g old))
      → ¬ Returns (understood old.schema sql) → IsUnderWay g sql key old now []
  none_yet now begun survives silent = record {
    survives = survives_weaker (state g old) (state g now) _ _
        (λ _ db showing. commits_none sql key (state g old) db silent showing) survives;
    given = λ clean. at_start now silent (begun clean);
  }

  module _ (now next : Held S) (rows : List Row) (under_way : IsUnderWay g sql key old now rows)
      (survives : Survives (state g now) (state g next) (λ _. ⊥)) where
    was_given : HasCleanDisk (state g next) → HasGiven g sql key now rows × IsUnchanged (state g old) (state g now)
    was_given clean = under_way.given (omega (arith, survives.clean))

    pub nothing_new : Survives (state g old) (state g next) (λ _. ⊥)
    nothing_new =
        survives_then (state g old) (state g now) (state g next) _ _ _ (λ _ db none. none) (λ _ db none. none)
        under_way.survives survives

    pub still_same : (HasCleanDisk (state g next) → IsUnchanged (state g now) (state g next))
        → HasCleanDisk (state g next) → IsUnchanged (state g old) (state g next)
    still_same same clean =
        unchanged_then (state g old) (state g now) (state g next) (was_given clean).1 (same clean)

    pub one_more : (row : Row) → (HasCleanDisk (state g next) → IsUnchanged (state g now) (state g next))
        → (HasCleanDisk (state g next) → Advances g now next (Some row)) → IsUnderWay g sql key old next (rows ++ row ∷ [])
    one_more row same moved = record {
      survives = nothing_new;
      given = λ clean. (moved clean sql key rows (was_given clean).0, still_same same clean);
    }

    -- an error leaves the last commit
    pub commit_kept : IsSelect sql → (e : Error) → (HasCleanDisk (state g next) → FailsToAdvance g now next e)
        → HasCleanDisk (state g next) → KeepsCommit (state g old) (state g next)
    commit_kept is_select e failed clean =
        let was = was_given clean in
        keeps_then (state g old) (state g now) (state g next) (unchanged_keeps (state g old) (state g now) was.1)
        (failed_keeps sql key is_select (state g now) (state g next) e (failed clean sql key rows was.0))

-- ---- what was found, and what that leaves

pub all_pushed : {X : Type 0} (P : X → Type 0) (xs : List X) (x : X) → AllByRecursion P xs → P x
    → AllByRecursion P (xs ++ x ∷ [])
all_pushed P [] x all here = (here, tt)
all_pushed P (y ∷ ys) x all here = (all.0, all_pushed P ys x all.1 here)

pub mapped_pushed : {X Y : Type 0} (f : X → Y) (xs all : List X) (x : X) (y : Y) → all ≡ xs ++ x ∷ [] → y ≡ f x
    → map f xs ++ y ∷ [] ≡ map f all
mapped_pushed f xs all x y pushed same =
    ap (λ z. map f xs ++ z ∷ []) same ∙ sym (map-append f xs (x ∷ [])) ∙ ap (map f) (sym pushed)

module _ {S : Type 0} (g : Ghosts S) (schema : Schema) (table : Table) (width : ℕ) (sql : List ℕ) (key : Row)
    (text : ReadsRows schema table width sql) (wide : width ≡ length key) (old : Held S) (has : old.schema ≡ schema)
  where
    schema_kept : (now : Held S) → IsUnchanged (state g old) (state g now) → now.schema ≡ schema
    schema_kept now same = ap (λ (d : Database). d.schema) same.0.now_is ∙ has

    of_old : (now : Held S) (found : List Row) → IsUnchanged (state g old) (state g now)
        → AreFound table key found ((state g now).now.trees table.tree)
        → AreFound table key found ((state g old).now.trees table.tree)
    of_old now found same = subst (λ (d : Database). AreFound table key found (d.trees table.tree)) same.0.now_is

    no_lets : (s : State) → s.now.schema ≡ schema → (c : Compiled) (db : Database) → IsStatement s sql key c
        → (params : Row) → EndsIn c.command db params
    no_lets s is c db it params =
        let known = sym (ap command_of it.is) ∙ ap (λ k. command_of (understood k sql)) is ∙ text.command in
        subst (λ k. EndsIn k db params) (sym known) tt

    -- the rows so far begin those that it finds
    pub found_so_far : (now : Held S) (rows : List Row) → IsUnderWay g sql key old now rows → HasCleanDisk (state g now)
        → (rest : List Row) × AreFound table key (rows ++ rest) ((state g old).now.trees table.tree)
    found_so_far now rows under_way clean =
        let s = state g now in
        let it = under_way.given clean in
        let all = begins_shown sql key s s rows (given_begin g sql key now rows it.0) (itself s it.1.0.is_open)
        (λ c db told from. no_lets s (schema_kept now it.1) c db told _) in (
          all.0,
          of_old now (rows ++ all.0) it.1 (found_in schema table width sql key s s (rows ++ all.0) text wide
              (schema_kept now it.1) all.1),
        )

    module _ (now next : Held S) (rows : List Row) (under_way : IsUnderWay g sql key old now rows)
        (survives : Survives (state g now) (state g next) (λ _. ⊥)) where
      -- no row is left
      pub found_all : (HasCleanDisk (state g next) → Advances g now next None) → HasCleanDisk (state g next)
          → AreFound table key rows ((state g old).now.trees table.tree)
      found_all moved clean =
          let was = was_given g sql key old now next rows under_way survives clean in
          of_old now rows was.1 (found_in schema table width sql key (state g now) (state g next) rows text wide
          (schema_kept now was.1) (moved clean sql key rows was.0))

      -- why no row was read
      pub why_stopped : AreTexts key → (e : Error) → e ≢ SqliteFailure OutOfMemory
          → (HasCleanDisk (state g next) → FailsToAdvance g now next e) → HasCleanDisk (state g next)
          → FailsToRead (state g old) (state g next)
      why_stopped texts e why failed clean =
          let was = was_given g sql key old now next rows under_way survives clean in
          failed_later (state g old) (state g now) (state g next) was.1 under_way.survives survives
          (failed_by schema table width sql text key texts wide (state g now) (state g next) (schema_kept now was.1) e why
          (failed clean sql key rows was.0))

-- whatever the call makes of the rows, where that meets no fault
pub only_read : {S X E : Type 0} (g : Ghosts S) (schema : Schema) (bad_row fault : E) (old new : Held S)
    (result : Result X E) → ¬ IsErrOf result fault → Survives (state g old) (state g new) (λ _. ⊥)
    → (HasCleanDisk (state g new) → IsUnchanged (state g old) (state g new))
    → (old.in_transaction ≡ false → new.in_transaction ≡ false) → OnlyReads g schema bad_row fault old new result
only_read g schema bad_row fault old new result sound survives same mode = record {
  same = λ clean. on_ok_of result (same clean);
  bad = λ clean _. same clean;
  cause = λ clean failed has. absurd (sound failed);
  kept = λ clean. unchanged_keeps (state g old) (state g new) (same clean);
  crash = survives;
  mode = mode;
}
