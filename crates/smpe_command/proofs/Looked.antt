-- What a load has found and left in a database that was opened for it.
use Rattle.std.proofs.Common.{Result, subst, inl, inr}
use Rattle.sqlite.specs.Store.{Ghosts}
use Rattle.sqlite.specs.Held.{Held, state}
use Rattle.sqlite.specs.State.{HasCleanDisk}
use Rattle.terms.specs.Closed.{AreClosed}
use Rattle.machine.specs.State.{State}
use Rattle.store_schema.specs.declared.error.StoreError.{StoreError}
use Rattle.store_schema.specs.Inventory.{Inventory}
use Rattle.store_schema.specs.Stands.{StandsFor}
use Rattle.store.specs.Causes.{IsLater}
use Rattle.store.specs.Going.{LoadsAlone}
use Rattle.store.specs.Loads.{Loads}
use Rattle.store.specs.CallEnds.{EndsLoad}
use Rattle.store.specs.Kept.{kept, Keeps}
use Rattle.store.proofs.Keeping.{loaded, ended_since}
use Rattle.smpe_jobs.specs.Ending.{StaysClosed}
use Rattle.smpe_jobs.proofs.Closing.{keeps_closed}

module _ {S X : Type 0} (g : Ghosts S) (old new : Held S) where
  -- what was found, and the cause of a fault since the opening
  pub looked : (s : State) (Found : Inventory → X → Type 0) → Keeps g old s → (conn : Held S) → IsLater g conn old
      → HasCleanDisk (state g new) → (r : Result X StoreError) → Loads g old new Found r
      → EndsLoad g conn new s (Found (kept s)) r
  looked s Found keeps conn later clean r loads =
      ended_since g conn old new s later (λ _. ⊥) (λ _. ⊥) (λ x. Found (kept s) x × Keeps g new s) r
      (loaded g old new s Found r clean loads keeps)

  -- Zones that were closed stay so.
  pub looked_closed : (r : Result X StoreError) → LoadsAlone g old new r → HasCleanDisk (state g old)
      → HasCleanDisk (state g new) → (s : State) → Keeps g old s → AreClosed s.global s.zones → StaysClosed g new
  looked_closed r loads was clean s keeps closed =
      let before = keeps_closed g old was s keeps closed in
      record {
        now = λ i is_open stands.
            let same = loads.kept clean in
            before.now i (same.was_open is_open) (subst (StandsFor i) (same.committed is_open) stands);
        crash = λ db left schema i stands. elim (loads.crash.crash clean db left) [
          | inl earlier ↦ before.crash db earlier schema i stands
          | inr none ↦ absurd none
        ];
      }
