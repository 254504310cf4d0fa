-- Loads one after the other, and the error of bad rows behind them.
use Rattle.std.proofs.Common.{◌≡◌, ◌⊎◌, Result, Ok, Err, inl, inr, refl, sym, subst, arith}
use Rattle.std.specs.Prelude.{IfErr, IsErrAnd}
use Rattle.std.proofs.lemmas.Result.{err_from_is_err_and}
use Rattle.sqlite.specs.Store.{Ghosts}
use Rattle.sqlite.specs.Held.{Held, state}
use Rattle.sqlite.specs.State.{HasCleanDisk}
use Rattle.sqlite.proofs.StateLemmas.{survives_then, unchanged}
use Rattle.store_rows.specs.Reads.{OnlyReads}
use Rattle.store_rows.proofs.Queries.{unchanged_then}
use Rattle.store_schema.specs.declared.error.StoreError.{StoreError}
use Rattle.store_schema.specs.declared.error.StoreError.TheVariants.{Fault, NoState, Memory}
use Rattle.store_schema.specs.Stands.{StandsFor}
use Rattle.store_schema.specs.Tables.{store_schema}
use Rattle.store.specs.BadRows.{OnlyLoads, FoundNoState, TellsNoState}

module _ {S : Type 0} (g : Ghosts S) where
  -- ---- loads

  pub loads_none : (at : Held S) → OnlyLoads g at at
  loads_none at = record {
    was_open = λ clean is_open. is_open;
    same = λ clean is_open. unchanged (state g at) is_open;
    crash = record {
      clean = omega arith;
      shield = λ is. is;
      counts = omega arith;
      limit = refl;
      closes = λ clean is_open. inl is_open;
      crash = λ clean db left. inl left;
    };
  }

  pub loads_then : (a b c : Held S) → OnlyLoads g a b → OnlyLoads g b c → OnlyLoads g a c
  loads_then a b c one two =
      let before : HasCleanDisk (state g c) → HasCleanDisk (state g b) = λ clean. omega (arith, two.crash.clean, clean)
      in
      record {
        was_open = λ clean is_open. one.was_open (before clean) (two.was_open clean is_open);
        same = λ clean is_open.
            let first = one.same (before clean) is_open in
            unchanged_then (state g a) (state g b) (state g c) first (two.same clean first.0.is_open);
        crash = survives_then (state g a) (state g b) (state g c) _ _ _ (λ _ db none. none) (λ _ db none. none)
            one.crash two.crash;
      }

  -- a load that answered
  pub loads_read : {X : Type 0} (old new : Held S) (x : X) → OnlyReads g store_schema NoState Fault old new (Ok x)
      → OnlyLoads g old new
  loads_read old new x reads = record {
    was_open = λ clean is_open. (reads.same clean).0.was_open;
    same = λ clean is_open. reads.same clean;
    crash = reads.crash;
  }

  -- ---- the error

  -- loads, and behind them one that found no state
  pub found_after : (a b c : Held S) → OnlyLoads g a b → HasCleanDisk (state g c) → FoundNoState g b c
      → FoundNoState g a c
  found_after a b c one clean found =
      let before : HasCleanDisk (state g b) = omega (arith, found.loads.crash.clean, clean) in
      let is_open = one.was_open before found.was_open in
      record {
        loads = loads_then a b c one found.loads;
        was_open = is_open;
        none = λ i stands. found.none i (subst (StandsFor i) (sym (one.same before is_open).0.committed_is) stands);
      }

  -- an error behind loads, handed on
  pub tells_after : {X : Type 0} (a b c : Held S) (r : Result X StoreError) (e : StoreError)
      → OnlyLoads g a b → IsErrAnd r (λ y. y ≡ e) → (HasCleanDisk (state g c) → e ≡ NoState → FoundNoState g b c)
      → TellsNoState g a c r
  tells_after a b c r e one is told clean bad =
      let p = err_from_is_err_and r is in
      found_after a b c one clean (told clean (cc (p.1, p.2, bad)))

  -- want of memory
  pub tells_short : {X : Type 0} (old new : Held S) (r : Result X StoreError) → IsErrAnd r (λ y. y ≡ Memory)
      → TellsNoState g old new r
  tells_short old new r is clean bad = let p = err_from_is_err_and r is in absurd (cc (p.1, p.2, bad))

  -- the errors of a commit
  pub tells_committed : {X : Type 0} (old new : Held S) (r : Result X StoreError)
      → IfErr r (λ e. (e ≡ Fault) ⊎ (e ≡ Memory)) → TellsNoState g old new r
  tells_committed old new (Ok x) which clean bad = absurd (cc bad)
  tells_committed old new (Err e) which clean bad = elim which [
    | inl is ↦ absurd (cc (is, bad))
    | inr is ↦ absurd (cc (is, bad))
  ]
