-- A text that is a SELECT commits nothing, whatever the schema is under which it runs.
use Rattle.std.proofs.Common.{◌≡◌, inl, inr, ℕ, List, Bool, true, false, None, Ok, Err, Result, IsTrue, IfOk, IfErr}
use Rattle.std.proofs.Common.{Vec, if◌then◌else◌, refl}
use Rattle.std.proofs.lemmas.Bool.{cases_Bool}
use Rattle.std.specs.declared.alloc.Global.{Global}
use Rattle.sqlite_ast.specs.declared.Statement.{Statement}
use Rattle.sqlite_ast.specs.declared.Statement.TheVariants as written
use Rattle.sqlite_syntax.specs.declared.statement.Parsed.{Parsed}
use Rattle.sqlite_resolve.specs.declared.compiled.Compiled.{Compiled}
use Rattle.sqlite_resolve.specs.declared.error.CompileError.{CompileError}
use Rattle.sqlite_resolve.specs.declared.error.CompileError.TheVariants.{NoSuchTable}
use Rattle.sqlite_resolve.specs.Lowering.{Checked, and_then}
use Rattle.sqlite_resolve.specs.Compile.{first, compiled, planned, meaning, returning, command, timed, with_command}
use Rattle.sqlite_schema.specs.declared.command.Command.{Command}
use Rattle.sqlite.specs.declared.error.Error.{Error}
use Rattle.sqlite.specs.Order.{Row}
use Rattle.sqlite.specs.Schema.{Schema}
use Rattle.sqlite.specs.Tree.{Trees}
use Rattle.sqlite.specs.Listing.{understood, listing_schema, if_select, is_select, reads_listing}
use Rattle.sqlite.specs.State.{State, IsUnchanged, KeepsCommit, IsRolledBack, Survives, Shown, CommitsShowing}
use Rattle.sqlite.specs.State.{FailsToQuery, IsNotRun}
use Rattle.sqlite.proofs.StateLemmas.{survives_weaker}
use Rattle.store_rows.specs.Selects.{selects, reads_select, IsSelect}

returns_none : (schema : Schema) (base : ℕ) (statement : Statement) → selects statement ≡ true
    → returning schema base statement ≡ Ok None
unfolding returning
returns_none schema base (written.Select s) h = refl
returns_none schema base _ h = absurd cc

silent : (p : Parsed) (formats : List (List ℕ)) (r : Checked Command) (c : Compiled)
    → and_then (and_then (and_then r (λ k. Ok (k, None))) (λ found. Ok (formats, found)))
    (λ plan. Ok (with_command p plan)) ≡ Ok c → c.returning ≡ None
silent p formats (Ok k) c h = cc
silent p formats (Err e) c h = absurd cc

planned_silent : (schema : Schema) (p : Parsed) (c : Compiled) → selects p.statement ≡ true
    → and_then (planned schema p) (λ plan. Ok (with_command p plan)) ≡ Ok c → c.returning ≡ None
unfolding planned meaning
planned_silent schema p c h is =
    let formats = timed schema p.formats p.statement in
    silent p formats (command schema p.formats _ p.statement) c (rw (returns_none schema _ p.statement h) at is)

if_select_keeps : (r : Result Compiled CompileError) (c : Compiled) → if_select r ≡ Ok c → r ≡ Ok c
if_select_keeps (Ok k) c h = go (is_select k.command) h
  where
    go : (b : Bool) → ◌≡◌ {A = Result Compiled CompileError} (if b then Ok k else Err NoSuchTable) (Ok c)
        → ◌≡◌ {A = Result Compiled CompileError} (Ok k) (Ok c)
    go true e = e
    go false e = absurd cc
if_select_keeps (Err e) c h = absurd cc

pub itself : (s : State) → IsTrue s.is_open → IsUnchanged s s
itself s is_open = (
  record { was_open = is_open; is_open = is_open; now_is = refl; committed_is = refl; mode = refl },
  record { changes = refl; last_rowid = refl },
  refl,
)

pub unchanged_keeps : (old new : State) → IsUnchanged old new → KeepsCommit old new
unchanged_keeps old new same = record { was_open = λ _. same.0.was_open; committed = λ _. same.0.committed_is }

pub rolled_keeps : (old new : State) → IsRolledBack old new → KeepsCommit old new
rolled_keeps old new back = record { was_open = back.was_open; committed = λ is_open. (back.undone is_open).1 }

module _ (sql : List ℕ) (params : Row) (is_select_text : IsSelect sql) where
  compiled_silent : (schema : Schema) (c : Compiled) → compiled schema sql ≡ Ok c → c.returning ≡ None
  unfolding compiled
  compiled_silent schema c is = go (first sql) is_select_text is
    where
      go : (r : Checked Parsed) → reads_select r ≡ true → and_then r
          (λ p. and_then (planned schema p) (λ plan. Ok (with_command p plan))) ≡ Ok c → c.returning ≡ None
      go (Ok p) h e = planned_silent schema p c h e
      go (Err x) h e = absurd cc

  -- it has no RETURNING
  pub select_silent : (schema : Schema) (c : Compiled) → understood schema sql ≡ Ok c → c.returning ≡ None
  unfolding understood
  select_silent schema c is = elim (cases_Bool (reads_listing schema sql)) [
    | inl listed ↦ compiled_silent listing_schema c (if_select_keeps (compiled listing_schema sql) c (rw listed at is))
    | inr plain ↦ compiled_silent schema c (rw plain at is)
  ]

  -- its answer leaves the connection as it was
  pub select_unchanged : (old new : State) (rows : List Row) → Shown sql params old new rows → IsUnchanged old new
  unfolding Shown
  select_unchanged old new rows h =
      let none = select_silent old.now.schema h.0 h.1.is in
      (rw none at h.2).3

  -- the same answer with nothing after it
  pub select_again : (old new : State) (rows : List Row) → Shown sql params old new rows → Shown sql params old old rows
  unfolding Shown
  select_again old new rows h =
      let none = select_silent old.now.schema h.0 h.1.is in
      let it = rw none at h.2 in
      (h.0, h.1, rw none (it.0, it.1, it.2, itself old it.3.0.was_open))

  not_run_keeps : (old new : State) (e : Error) → IsNotRun old new sql params e → KeepsCommit old new
  unfolding IsNotRun
  not_run_keeps old new e (inl h) = unchanged_keeps old new h.1
  not_run_keeps old new e (inr h) = rolled_keeps old new h.3

  pub failed_keeps : (old new : State) (e : Error) → FailsToQuery sql params old new e → KeepsCommit old new
  unfolding FailsToQuery
  failed_keeps old new e (inl h) = not_run_keeps old new e h
  failed_keeps old new e (inr h) =
      let none = select_silent old.now.schema h.0 h.1.is in
      unchanged_keeps old new (rw none at h.2).3

  -- whatever `query_all` answers, the last commit stays
  pub select_keeps : (r : Result (Vec Row Global) Error) (old new : State)
      → IfOk r (λ rows. Shown sql params old new rows.items) → IfErr r (FailsToQuery sql params old new)
      → KeepsCommit old new
  select_keeps (Ok rows) old new shown failed = unchanged_keeps old new (select_unchanged old new rows.items shown)
  select_keeps (Err e) old new shown failed = failed_keeps old new e failed

  never_commits : (s : State) (db : Trees) → ¬ CommitsShowing sql params s db
  unfolding CommitsShowing
  never_commits s db h = let none = select_silent s.now.schema h.0 h.1.is in absurd (let some = rw none at h.2 in cc)

  -- and a crash finds nothing new
  pub select_survives : (old new : State) → Survives old new (CommitsShowing sql params old) → Survives old new (λ _. ⊥)
  select_survives old new = survives_weaker old new _ _ (λ _ db showing. never_commits old db showing)
