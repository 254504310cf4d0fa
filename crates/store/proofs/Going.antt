-- Calls over a store one after the other, whatever its tables are.
use Rattle.std.proofs.Common.{◌≡◌, Result, Ok, Err, OnOk, inl, inr, refl, arith}
use Rattle.sqlite.specs.Store.{Ghosts}
use Rattle.sqlite.specs.Held.{Held, state}
use Rattle.sqlite.specs.State.{HasCleanDisk}
use Rattle.sqlite.proofs.StateLemmas.{survives_then}
use Rattle.store_rows.specs.Reads.{OnlyReads}
use Rattle.store_rows.proofs.Queries.{keeps_then}
use Rattle.store_schema.specs.declared.error.StoreError.{StoreError}
use Rattle.store_schema.specs.declared.error.StoreError.TheVariants.{Fault, NoState}
use Rattle.store_schema.specs.Tables.{store_schema}
use Rattle.store.specs.declared.change.Change.{Change}
use Rattle.store.specs.BadRows.{OnlyLoads}
use Rattle.store.specs.Calls.{calls_of}
use Rattle.store.specs.Commits.{OnlyCommits}
use Rattle.store.specs.Going.{LoadsAlone, CommitsOnce, GoesOver}
use Rattle.store.proofs.NoState.{loads_none, loads_read, loads_then}

module _ {S : Type 0} (g : Ghosts S) where
  module _ (old new : Held S) where
    -- ---- loads alone

    -- a load
    pub loads_alone : {X : Type 0} (r : Result X StoreError) → OnlyReads g store_schema NoState Fault old new r
        → LoadsAlone g old new r
    loads_alone (Ok x) reads = record { same = loads_read g old new x reads; kept = reads.kept; crash = reads.crash }
    loads_alone (Err e) reads = record { same = tt; kept = reads.kept; crash = reads.crash }

    -- something else is answered
    alone_ok : {X E Y F : Type 0} (x : X) (y : Y) → LoadsAlone g old new {X = X} {E = E} (Ok x)
        → LoadsAlone g old new {X = Y} {E = F} (Ok y)
    alone_ok x y loads = record { same = loads.same; kept = loads.kept; crash = loads.crash }

    -- an error is told otherwise
    alone_err : {X E Y F : Type 0} (e : E) (f : F) → LoadsAlone g old new {X = X} {E = E} (Err e)
        → LoadsAlone g old new {X = Y} {E = F} (Err f)
    alone_err e f loads = record { same = tt; kept = loads.kept; crash = loads.crash }

    pub alone_loads : {X E : Type 0} (x : X) → OnlyLoads g old new → LoadsAlone g old new {X = X} {E = E} (Ok x)
    alone_loads x loads = record {
      same = loads;
      kept = λ clean. record {
        was_open = loads.was_open clean;
        committed = λ is_open. (loads.same clean (loads.was_open clean is_open)).0.committed_is;
      };
      crash = loads.crash;
    }

    -- an error that is not the store's comes behind an answer
    pub alone_short : {X E Y F : Type 0} (x : X) (f : F) → LoadsAlone g old new {X = X} {E = E} (Ok x)
        → LoadsAlone g old new {X = Y} {E = F} (Err f)
    alone_short x f loads = record { same = tt; kept = loads.kept; crash = loads.crash }

    -- ---- one commit

    once_ok : {X E Y F : Type 0} (change : Change) (x : X) (y : Y)
        → CommitsOnce g old new {X = X} {E = E} change (Ok x) → CommitsOnce g old new {X = Y} {E = F} change (Ok y)
    once_ok change x y once = record {
      before = once.before;
      loads = once.loads;
      commits = record {
        made = once.commits.made;
        kept = λ clean. tt;
        crash = once.commits.crash;
      };
    }

    once_err : {X E Y F : Type 0} (change : Change) (e : E) (f : F)
        → CommitsOnce g old new {X = X} {E = E} change (Err e) → CommitsOnce g old new {X = Y} {E = F} change (Err f)
    once_err change e f once = record {
      before = once.before;
      loads = once.loads;
      commits = record {
        made = λ clean. tt;
        kept = once.commits.kept;
        crash = once.commits.crash;
      };
    }

    -- a commit
    pub goes_commit : {X E : Type 0} (change : Change) (r : Result X E) → OnlyCommits g (calls_of change) old new r
        → GoesOver g old new (λ own. own ≡ change) r
    goes_commit change r commits =
        inr (change, refl, record { before = old; loads = loads_none g old; commits = commits })

    -- ---- both

    module _ (IsOwn More : Change → Type 0) where
      pub goes_own : {X E : Type 0} (r : Result X E) → ((change : Change) → IsOwn change → More change)
          → GoesOver g old new IsOwn r → GoesOver g old new More r
      goes_own r more (inl loads) = inl loads
      goes_own r more (inr (change, own, once)) = inr (change, more change own, once)

      pub goes_ok : {X E Y F : Type 0} (x : X) (y : Y) → ((change : Change) → IsOwn change → More change)
          → GoesOver g old new IsOwn {X = X} {E = E} (Ok x) → GoesOver g old new More {X = Y} {E = F} (Ok y)
      goes_ok x y more (inl loads) = inl (alone_ok x y loads)
      goes_ok x y more (inr (change, own, once)) = inr (change, more change own, once_ok change x y once)

      pub goes_err : {X E Y F : Type 0} (e : E) (f : F) → ((change : Change) → IsOwn change → More change)
          → GoesOver g old new IsOwn {X = X} {E = E} (Err e) → GoesOver g old new More {X = Y} {E = F} (Err f)
      goes_err e f more (inl loads) = inl (alone_err e f loads)
      goes_err e f more (inr (change, own, once)) = inr (change, more change own, once_err change e f once)

    -- where there is no change of its own
    pub goes_alone : {X E : Type 0} (r : Result X E) → GoesOver g old new (λ _. ⊥) r → LoadsAlone g old new r
    goes_alone r (inl loads) = loads
    goes_alone r (inr (change, none, once)) = absurd none

  -- no call at all
  pub alone_none : {X E : Type 0} (at : Held S) (x : X) → LoadsAlone g at at {X = X} {E = E} (Ok x)
  alone_none at x = record {
    same = loads_none g at;
    kept = λ clean. record { was_open = λ is_open. is_open; committed = λ is_open. refl };
    crash = (loads_none g at).crash;
  }

  module _ (a b c : Held S) where
    alone_then : {X E Y F : Type 0} (x : X) (r : Result Y F) → LoadsAlone g a b {X = X} {E = E} (Ok x)
        → LoadsAlone g b c r → LoadsAlone g a c r
    alone_then {Y = Y} {F = F} x r one two = record {
      same = both r two.same;
      kept = λ clean. keeps_then (state g a) (state g b) (state g c) (one.kept (before clean)) (two.kept clean);
      crash = survives_then (state g a) (state g b) (state g c) _ _ _ (λ _ db none. none) (λ _ db none. none) one.crash
          two.crash;
    }
      where
        before : HasCleanDisk (state g c) → HasCleanDisk (state g b)
        before clean = omega (arith, two.crash.clean, clean)

        both : (r : Result Y F) → OnOk r (OnlyLoads g b c) → OnOk r (OnlyLoads g a c)
        both (Ok y) same = loads_then g a b c one.same same
        both (Err e) same = tt

    -- loads, and then a call
    pub goes_then : {X E Y F : Type 0} (IsOwn : Change → Type 0) (x : X) (r : Result Y F)
        → LoadsAlone g a b {X = X} {E = E} (Ok x) → GoesOver g b c IsOwn r → GoesOver g a c IsOwn r
    goes_then IsOwn x r one (inl two) = inl (alone_then x r one two)
    goes_then IsOwn x r one (inr (change, own, once)) = inr (
      change,
      own,
      record {
        before = once.before;
        loads = loads_then g a b once.before one.same once.loads;
        commits = once.commits;
      },
    )
