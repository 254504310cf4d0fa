-- Calls over a store one after the other, and what becomes of their results, whatever the tables are.
use Rattle.std.proofs.Common.{◌≡◌, ◌≢◌, ◌⊎◌, ◌∙◌, Result, Ok, Err, arith, inl, inr, refl}
use Rattle.std.specs.Prelude.{IfErr, IsErrOf}
use Rattle.sqlite.specs.Store.{Ghosts}
use Rattle.sqlite.specs.Held.{Held, state}
use Rattle.sqlite.specs.State.{HasCleanDisk}
use Rattle.store.specs.Calls.{calls_of}
use Rattle.store.specs.Causes.{IsLater}
use Rattle.store.specs.Commits.{OnlyCommits}
use Rattle.store.specs.Loads.{Loads}
use Rattle.store.specs.declared.change.Change.{Change}
use Rattle.store.proofs.Going.{loads_alone, alone_none, alone_short, goes_alone, goes_commit, goes_err, goes_ok}
use Rattle.store.proofs.Going.{goes_own, goes_then}
use Rattle.store.proofs.NoState.{found_after, tells_committed}
use Rattle.store_schema.specs.Inventory.{Inventory}
use Rattle.store_schema.specs.declared.error.StoreError.{StoreError}
use Rattle.store_schema.specs.declared.error.StoreError.TheVariants.{Fault, OtherSchema, NoState, Memory}
use Rattle.store.specs.CallEnds.{Follows, GoesCall}

-- the errors of a commit
not_other : {X : Type 0} (r : Result X StoreError) → IfErr r (λ e. (e ≡ Fault) ⊎ (e ≡ Memory))
    → IfErr r (λ e. e ≢ OtherSchema)
not_other (Ok x) which = tt
not_other (Err e) which = λ is. elim which [
  | inl fault ↦ absurd (cc (fault, is))
  | inr memory ↦ absurd (cc (memory, is))
]

-- an error that is none of another schema
never_other : {X : Type 0} (r : Result X StoreError) → IfErr r (λ e. e ≢ OtherSchema) → ¬ IsErrOf r OtherSchema
never_other (Ok x) which bad = absurd (cc bad)
never_other (Err e) which bad = which (cc bad)

module _ {S : Type 0} (g : Ghosts S) where
  -- ---- moments

  pub follows_itself : (at : Held S) → Follows g at at
  follows_itself at = record { clean = λ clean. clean; faults = omega arith; limit = refl }

  pub follows_on : (old mid new : Held S) → Follows g old mid → Follows g mid new → Follows g old new
  follows_on old mid new first second = record {
    clean = λ clean. first.clean (second.clean clean);
    faults = omega (arith, first.faults, second.faults);
    limit = second.limit ∙ first.limit;
  }

  pub is_later : (old new : Held S) → Follows g old new → IsLater g old new
  is_later old new follows = (follows.faults, follows.limit)

  module _ (old new : Held S) where
    -- ---- one call

    pub call_load : {X : Type 0} (Found : Inventory → X → Type 0) (r : Result X StoreError) → Loads g old new Found r
        → GoesCall g old new (λ _. ⊥) NoState OtherSchema r
    call_load Found r loads = record {
      follows = record {
        clean = loads.clean;
        faults = loads.reads.crash.counts;
        limit = loads.reads.crash.limit;
      };
      over = inl (loads_alone g old new r loads.reads);
      none = loads.none;
      which = never_other r loads.which;
    }

    pub call_commit : {X : Type 0} (change : Change) (r : Result X StoreError)
        → (HasCleanDisk (state g new) → HasCleanDisk (state g old)) → OnlyCommits g (calls_of change) old new r
        → IfErr r (λ e. (e ≡ Fault) ⊎ (e ≡ Memory))
        → GoesCall g old new (λ own. own ≡ change) NoState OtherSchema r
    call_commit change r was only which = record {
      follows = record { clean = was; faults = only.crash.counts; limit = only.crash.limit };
      over = goes_commit g old new change r only;
      none = tells_committed g old new r which;
      which = never_other r (not_other r which);
    }

    -- ---- its result

    module _ (IsMine IsOwn : Change → Type 0) (own : (change : Change) → IsMine change → IsOwn change) where
      -- with changes that are others too
      pub call_own : {X : Type 0} (r : Result X StoreError) → GoesCall g old new IsMine NoState OtherSchema r
          → GoesCall g old new IsOwn NoState OtherSchema r
      call_own r call = record {
        follows = call.follows;
        over = goes_own g old new IsMine IsOwn r own call.over;
        none = call.none;
        which = call.which;
      }

      -- something else is answered
      pub call_ok : {X Y : Type 0} (x : X) (y : Y)
          → GoesCall {E = StoreError} g old new IsMine NoState OtherSchema (Ok x)
          → GoesCall {E = StoreError} g old new IsOwn NoState OtherSchema (Ok y)
      call_ok x y call = record {
        follows = call.follows;
        over = goes_ok g old new IsMine IsOwn x y own call.over;
        none = λ clean bad. absurd (cc bad);
        which = λ bad. absurd (cc bad);
      }

      -- an error is handed on
      pub call_err : (X Y : Type 0) (e : StoreError) → GoesCall {X = X} g old new IsMine NoState OtherSchema (Err e)
          → GoesCall {X = Y} g old new IsOwn NoState OtherSchema (Err e)
      call_err X Y e call = record {
        follows = call.follows;
        over = goes_err g old new IsMine IsOwn e e own call.over;
        none = λ clean bad. call.none clean (cc bad);
        which = λ bad. call.which (cc bad);
      }

    -- memory runs out behind loads
    pub call_short : {X : Type 0} (Y : Type 0) (IsOwn : Change → Type 0) (x : X)
        → GoesCall {E = StoreError} g old new (λ _. ⊥) NoState OtherSchema (Ok x)
        → GoesCall {X = Y} g old new IsOwn NoState OtherSchema (Err Memory)
    call_short Y IsOwn x call = record {
      follows = call.follows;
      over = inl (alone_short g old new x Memory (goes_alone g old new (Ok x) call.over));
      none = λ clean bad. absurd (cc bad);
      which = λ bad. absurd (cc bad);
    }

  -- no call at all
  pub call_none : (at : Held S)
      → GoesCall {X = Unit {0}} {E = StoreError} g at at (λ _. ⊥) NoState OtherSchema (Ok tt)
  call_none at = record {
    follows = follows_itself at;
    over = inl (alone_none g at tt);
    none = λ clean bad. absurd (cc bad);
    which = λ bad. absurd (cc bad);
  }

  -- loads, and then a call
  pub call_after : {X Y : Type 0} (a b c : Held S) (IsOwn : Change → Type 0) (x : X) (r : Result Y StoreError)
      → GoesCall {E = StoreError} g a b (λ _. ⊥) NoState OtherSchema (Ok x)
      → GoesCall g b c IsOwn NoState OtherSchema r → GoesCall g a c IsOwn NoState OtherSchema r
  call_after a b c IsOwn x r one two =
      let loads = goes_alone g a b (Ok x) one.over in
      record {
        follows = follows_on a b c one.follows two.follows;
        over = goes_then g a b c IsOwn x r loads two.over;
        none = λ clean bad. found_after g a b c loads.same clean (two.none clean bad);
        which = two.which;
      }
