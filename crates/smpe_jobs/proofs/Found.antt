-- What the next open finds, and what a store that is opened again keeps, from what a crash may leave.
use Rattle.std.proofs.Common.{◌≡◌, ℕ, List, [], ◌∷◌, Option, inr, subst}
use Rattle.std.proofs.Math.Logic.{∥∥₁_map}
use Rattle.sqlite.specs.Store.{Ghosts}
use Rattle.sqlite.specs.Held.{Held, state}
use Rattle.sqlite.specs.State.{HasCleanDisk}
use Rattle.machine.specs.State.{State}
use Rattle.machine.specs.Machine.{Act, Steps}
use Rattle.machine.specs.Runs.{Stands}
use Rattle.store_schema.specs.declared.error.StoreError.TheVariants as store
use Rattle.store_schema.specs.Inventory.{Inventory}
use Rattle.store.specs.View.{Tables, IsFound, MayLeave, Leaves, ShowsLeft}
use Rattle.store.proofs.Reopening.{found_left}
use Rattle.store.specs.Kept.{kept, Keeps}
use Rattle.smpe_jobs.specs.declared.error.JobError.{JobError}
use Rattle.smpe_jobs.specs.declared.error.JobError.TheVariants.{Memory, Store, Write}
use Rattle.smpe_jobs.specs.Course.{Unreported}
use Rattle.smpe_jobs.specs.Ending.{EndsLast, EndsEarly}
use Rattle.smpe_jobs.specs.Reopened.{ShowsOne, KeepsOne, FindsLast, FindsEarly, NextOpenFinds, MayGoOn}
use Rattle.smpe_jobs.proofs.Courses.{course_as, next_as}

-- Of what a crash may leave one is found.
module _ {S : Type 0} (g : Ghosts S) (began at : Held S) (One : (Inventory → Type 0) → Type 0)
    (one_of : (Among : Inventory → Type 0) → Leaves g at Among → One Among) where
  last_found : (new : Option (List ℕ)) (e : JobError) (before : State) (had : Option (List ℕ)) (rest : List Act)
      → EndsLast g began at new e before had rest → FindsLast One new e before had rest
  last_found new Memory before had rest (still, same) = (one_of _ still.crash, same)
  last_found new (Store store.Fault) before had [] none = absurd none
  last_found new (Store store.Fault) before had (next ∷ rest) (failed, same) = (one_of _ failed.still.crash, same)
  last_found new (Store store.OtherSchema) before had rest none = none
  last_found new (Store store.NoState) before had rest none = none
  last_found new (Store store.Memory) before had rest none = none
  last_found new Write before had rest last =
      next_as (Unreported Steps (Keeps g at) new) (Unreported Steps (λ t. One (λ c. c ≡ kept t)) new)
      (λ s had act it. (it.0, it.1, it.2, one_of _ it.3.crash, it.4)) before had rest last

  early : (s : State) (acts : List Act) (old new : Option (List ℕ)) (e : JobError)
      → EndsEarly g began at s acts old new e → FindsEarly One s acts old new e
  early s acts old new e ends =
      course_as Steps (EndsLast g began at new e) (FindsLast One new e) s acts old (last_found new e) ends

pub next_open_finds_holds : {S T : Type 0} (g : Ghosts S) (h : Ghosts T) → NextOpenFinds g h
next_open_finds_holds g h began at again s jobs old new error (acts, first, ends) shows =
    ∥∥₁_map shows.left (λ left. (
      acts,
      first,
      early g began at (ShowsOne h again)
          (λ Among leaves. found_left g h at again Among leaves shows.live left shows.is_open) s acts old new error
          ends,
    ))

-- A connection shows what a crash may leave of the first, and a store was opened over it.
module _ {S T : Type 0} (g : Ghosts S) (h : Ghosts T) (at : Held S) (conn again : Held T)
    (clean : HasCleanDisk (state g at)) (shows : ShowsLeft g at h conn)
    (tables : (i : Inventory) → IsFound h conn i → Tables h again i)
    (leaves : (i : Inventory) → IsFound h conn i → Leaves h again (λ c. c ≡ i))
  where
    keeps_one : MayLeave g at (state h conn).committed.trees → (Among : Inventory → Type 0) → Leaves g at Among
        → KeepsOne h again Among
    keeps_one left Among all =
        let it = found_left g h at conn Among all shows.live left shows.is_open in (
          it.0,
          it.1,
          record {
            now = tables it.0 (λ sure is_open. inr it.2);
            crash = leaves it.0 (λ sure is_open. inr it.2);
          },
        )

    pub goes_on : MayGoOn g at h again
    goes_on = record {
      clean = clean;
      same = λ s keeps. ∥∥₁_map shows.left (λ left.
          let it = keeps_one left (λ c. c ≡ kept s) keeps.crash in
          subst (Stands (Tables h again) (Leaves h again)) it.1 it.2);
      early = λ began s jobs old new error ends. ∥∥₁_map shows.left (λ left. (
        ends.0,
        ends.1,
        early g began at (KeepsOne h again) (keeps_one left) s ends.0 old new error ends.2,
      ));
    }
