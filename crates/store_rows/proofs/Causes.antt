-- Why a query fails whose text suits the tables.
use Rattle.std.proofs.Common.{◌≡◌, ◌≢◌, ◌⊎◌, ◌≤◌, inl, inr, ℕ, length, List, [], true, false}
use Rattle.std.proofs.Common.{Result, IsSome, IsErrAnd, IsErrOf, Any, map, sym, ap, subst, ◌∙◌, append-nil}
use Rattle.std.proofs.lemmas.Result.{err_from_is_err_and}
use Rattle.sqlite.specs.declared.error.Error.{Error}
use Rattle.sqlite.specs.declared.error.Error.TheVariants.{SqliteFailure}
use Rattle.sqlite.specs.declared.error.ErrorCode.TheVariants.{OutOfMemory, TooBig}
use Rattle.sqlite.specs.Order.{Row}
use Rattle.sqlite.specs.Schema.{Schema}
use Rattle.sqlite.specs.Table.{Table}
use Rattle.sqlite.specs.Term.{col}
use Rattle.sqlite.specs.Query.{Query}
use Rattle.std.specs.List.{range_with_len}
use Rattle.sqlite_typing.specs.Types.{accepts_program}
use Rattle.sqlite.specs.Effect.{RefusesToRead}
use Rattle.sqlite.specs.Command.{Command}
use Rattle.sqlite.specs.Listing.{understood, reads_listing, IsSourceOf}
use Rattle.sqlite.specs.State.{State, IsNoStatement, IsNotRun, Fails, FailsToQuery}
use Rattle.sqlite.specs.Given.{IsPlain}
use Rattle.sqlite.proofs.Callers.{command_of}
use Rattle.sqlite_resolve.specs.declared.compiled.Compiled.{Compiled}
use Rattle.sqlite_resolve.specs.declared.error.CompileError.{CompileError}
use Rattle.sqlite_trees.specs.declared.error.StoreError.TheVariants as cause
use Rattle.store_rows.specs.declared.error.ReadError.{ReadError}
use Rattle.store_rows.specs.declared.error.ReadError.TheVariants.{Memory, Fault}
use Rattle.store_rows.specs.Reads.{HasFailed, FailsToRead}
use Rattle.store_rows.specs.Told.{read_error}
use Rattle.store_rows.specs.Texts.{ReadsRows, AreTexts, scan_by, key_tests, is_typed, tail_of, places_of}

-- the database itself failed
pub failed_itself : (old new : State) (too_big : Type 0) (e : Error) → Fails old new too_big e
    → (e ≡ SqliteFailure OutOfMemory) ⊎ (HasFailed old new ⊎ (too_big × (e ≡ SqliteFailure TooBig)))
failed_itself old new too_big e (cause.OutOfMemory, is, h, back, told) = inl is
failed_itself old new too_big e (cause.Io, is, h, back, told) = inr (inl (inl h))
failed_itself old new too_big e (cause.Corrupt, is, h, back, told) = inr (inl (inl h))
failed_itself old new too_big e (cause.Full, is, h, back, told) = inr (inl (inl h))
failed_itself old new too_big e (cause.Broken, is, h, back, told) = inr (inl (inr h))
failed_itself old new too_big e (cause.Unstorable, is, h, back, told) = inr (inr (h, is))

-- an error that is told as a fault is not want of memory
pub not_short : {X : Type 0} (r : Result X ReadError) (e : Error) → IsErrAnd r (λ y. y ≡ read_error e)
    → IsErrOf r Fault → e ≢ SqliteFailure OutOfMemory
not_short r e told fault is =
    let it = err_from_is_err_and r told in
    let short : read_error e ≡ Memory = ap read_error is in
    absurd (cc (it.1, it.2, fault, short))

-- a row of the table overflows nothing
never_over : (rows : List Row) → ¬ Any (λ (r : Row). ⊥) rows
never_over rows h = h.4

module _ (schema : Schema) (table : Table) (width : ℕ) (sql : List ℕ) (text : ReadsRows schema table width sql)
    (key : Row) (texts : AreTexts key) (wide : width ≡ length key) (old new : State) (has : old.now.schema ≡ schema)
  where
    abbrev body : Query
    body = scan_by table.tree (key_tests 0 width) (map (col 1) (range_with_len 1 (length table.columns))) text.order

    of_schema : {r : Result Compiled CompileError} → understood old.now.schema sql ≡ r → understood schema sql ≡ r
    of_schema is = ap (λ s. understood s sql) (sym has) ∙ is

    -- the text is one statement, and has as many parameters
    is_statement : (e : Error) → ¬ IsNoStatement old sql key e
    is_statement e (inl (fault, is, told)) =
        absurd (let bad = ap command_of (of_schema is) in let good = text.command in cc)
    is_statement e (inr (c, is, inl whole)) =
        let known = of_schema is in whole.0 (subst (λ r. length sql ≤ tail_of r) known text.whole)
    is_statement e (inr (c, is, inr (inl given))) =
        let known = of_schema is in
        given.0 (sym wide ∙ sym text.given ∙ ap places_of known)
    is_statement e (inr (c, is, inr (inr timed))) =
        let known = of_schema is in timed.0 (subst IsPlain known text.plain).1

    -- a scan has a type, and sums up nothing
    refused : (e : Error) (command : Command) → command_of (understood schema sql) ≡ command
        → RefusesToRead old.step_limit command old.now key e → IsSome old.step_limit
    refused e command is h =
        let select = sym is ∙ text.command in
        let typed = subst (λ k. is_typed schema key k ≡ true) text.command (text.typed key texts (sym wide)) in
        elim (subst (λ k. RefusesToRead old.step_limit k old.now key e) select h) [
          | inl mismatch ↦ absurd (let other = subst (λ s. accepts_program s [] body key ≡ false) has mismatch.1 in cc)
          | inr (inl (is_over, inl none)) ↦ absurd none
          | inr (inl (is_over, inr over)) ↦ absurd (never_over _ over)
          | inr (inr limited) ↦ limited.1
        ]

    pub failed_by : (e : Error) → e ≢ SqliteFailure OutOfMemory → FailsToQuery sql key old new e → FailsToRead old new
    unfolding FailsToQuery IsNotRun
    failed_by e why (inl (inl h)) = absurd (is_statement e h.0)
    failed_by e why (inl (inr h)) = elim (failed_itself old new ⊥ e h) [
      | inl short ↦ absurd (why short)
      | inr (inl failed) ↦ inl failed
      | inr (inr none) ↦ absurd none.0
    ]
    failed_by e why (inr h) =
        let known = of_schema h.1.is in
        let bare = subst IsPlain known text.plain in
        let it = rw (bare.0, bare.1, append-nil key) at h.2 in
        let listing = ap (λ s. reads_listing s sql) has ∙ text.unlisted in
        let db : it.0 ≡ old.now = subst (λ b. IsSourceOf b old.now it.0) listing it.1 in
        inr (refused e h.0.command (ap command_of known)
        (subst (λ d. RefusesToRead old.step_limit h.0.command d key e) db it.2))
