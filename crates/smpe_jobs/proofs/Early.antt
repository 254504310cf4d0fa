-- Calls that could not go on, one after another.
use Rattle.std.proofs.Common.{ℕ, List, [], ◌∷◌, ◌++◌, Option, Result, Ok, Err, refl, inl}
use Rattle.sqlite.specs.Store.{Ghosts}
use Rattle.sqlite.specs.Held.{Held}
use Rattle.machine.specs.State.{State}
use Rattle.machine.specs.Outcome.{Outcome}
use Rattle.machine.specs.Report.{text}
use Rattle.machine.specs.Machine.{Job, Answer, Act, Steps, AreFirstActs}
use Rattle.store_schema.specs.declared.error.StoreError.{StoreError}
use Rattle.store_schema.specs.declared.error.StoreError.TheVariants as store
use Rattle.store_schema.specs.Inventory.{Inventory}
use Rattle.report.specs.Sent.{WrotePart}
use Rattle.store.specs.Causes.{IsLater}
use Rattle.store.specs.CallEnds.{FailsAct}
use Rattle.store.specs.Kept.{Keeps, IsAfter, LeadsOn}
use Rattle.store.proofs.Keeping.{still_kept, still_more, failed_since}
use Rattle.smpe_jobs.specs.declared.error.JobError.{JobError}
use Rattle.smpe_jobs.specs.declared.error.JobError.TheVariants.{Memory, Store, Write}
use Rattle.smpe_jobs.specs.Errors.{job_error}
use Rattle.smpe_jobs.specs.Course.{AllRan, Unreported}
use Rattle.smpe_jobs.specs.Ending.{IsAfterNext, Faulted, EndsLast, EndsEarly, EndsAmong, EndsJobs}
use Rattle.smpe_jobs.proofs.Courses.{course_first, course_after, course_more, course_as, next_more, next_as, unreported}

-- with acts behind that were never begun
after_more : (s : State) (rest more : List Act) (c : Inventory) → IsAfterNext s rest c → IsAfterNext s (rest ++ more) c
after_more s [] more c none = absurd none
after_more s (next ∷ rest) more c after = after

-- no act of these jobs
pub none_begun : (jobs : List Job) → AreFirstActs jobs []
none_begun [] = refl
none_begun (job ∷ more) = inl refl

module _ {S : Type 0} (g : Ghosts S) (began at : Held S) (new : Option (List ℕ)) where
  last_more : (e : JobError) (more : List Act) (before : State) (had : Option (List ℕ)) (rest : List Act)
      → EndsLast g began at new e before had rest → EndsLast g began at new e before had (rest ++ more)
  last_more Memory more before had rest (still, same) = (
    still_more g at before (IsAfterNext before rest) (IsAfterNext before (rest ++ more))
        (after_more before rest more) still,
    same,
  )
  last_more (Store store.Fault) more before had rest last =
      next_more (Faulted g began at new) before had rest more last
  last_more (Store store.OtherSchema) more before had rest none = none
  last_more (Store store.NoState) more before had rest none = none
  last_more (Store store.Memory) more before had rest none = none
  last_more Write more before had rest last =
      next_more (Unreported Steps (Keeps g at) new) before had rest more last

  -- of a call that began earlier
  last_since : (first : Held S) → IsLater g first began → (e : JobError) (before : State) (had : Option (List ℕ))
      (rest : List Act) → EndsLast g began at new e before had rest → EndsLast g first at new e before had rest
  last_since first later Memory before had rest last = last
  last_since first later (Store store.Fault) before had rest last =
      next_as (Faulted g began at new) (Faulted g first at new) (λ s had act failed. (
        failed_since g first began at s later (IsAfter s act) (LeadsOn s act) store.Fault failed.0,
        failed.1,
      )) before had rest last
  last_since first later (Store store.OtherSchema) before had rest none = none
  last_since first later (Store store.NoState) before had rest none = none
  last_since first later (Store store.Memory) before had rest none = none
  last_since first later Write before had rest last = last

module _ {S : Type 0} (g : Ghosts S) (began at : Held S) (s : State) where
  -- the first of these acts failed
  pub failed_first : (a : Act) (more : List Act) (taken : Option (List ℕ)) (e : StoreError)
      → FailsAct g began at s a e → EndsEarly g began at s (a ∷ more) taken taken (job_error e)
  failed_first a more taken store.Fault failed =
      course_first Steps (EndsLast g began at taken (Store store.Fault)) s (a ∷ more) taken (failed, refl)
  failed_first a more taken store.OtherSchema none = absurd none
  failed_first a more taken store.NoState none = absurd none
  failed_first a more taken store.Memory failed =
      course_first Steps (EndsLast g began at taken Memory) s (a ∷ more) taken (
        still_more g at s (IsAfter s a) (IsAfterNext s (a ∷ more)) (λ c after. after) failed,
        refl,
      )

  -- of the report of an act a beginning went out
  pub broke_first : (a : Act) (t : State) (outcome : Outcome) (old new : Option (List ℕ)) → Steps s a t (outcome ∷ [])
      → Keeps g at t → WrotePart old new (text outcome) → EndsEarly g began at s (a ∷ []) old new Write
  broke_first a t outcome old new step keeps part =
      course_first Steps (EndsLast g began at new Write) s (a ∷ []) old
      (unreported Steps (Keeps g at) s t a outcome old new step keeps part)

  -- want of memory before the first act
  pub ends_unbegun : (jobs : List Job) (taken : Option (List ℕ)) → Keeps g at s
      → EndsAmong g began at s jobs taken taken Memory
  ends_unbegun jobs taken keeps = (
    [],
    none_begun jobs,
    course_first Steps (EndsLast g began at taken Memory) s [] taken
        (still_kept g at s (IsAfterNext s []) keeps, refl),
  )

  -- with acts behind that were never begun
  pub early_more : (xs ys : List Act) (a b : Option (List ℕ)) (e : JobError) → EndsEarly g began at s xs a b e
      → EndsEarly g began at s (xs ++ ys) a b e
  early_more xs ys a b e early =
      course_more Steps (EndsLast g began at b e) s xs ys a (last_more g began at b e ys) early

-- the same of a call that began earlier
module _ {S : Type 0} (g : Ghosts S) (began mid at : Held S) (later : IsLater g began mid) where
  early_since : (s : State) (acts : List Act) (a b : Option (List ℕ)) (e : JobError)
      → EndsEarly g mid at s acts a b e → EndsEarly g began at s acts a b e
  early_since s acts a b e early =
      course_as Steps (EndsLast g mid at b e) (EndsLast g began at b e) s acts a
      (last_since g mid at b began later e) early

  -- behind acts that ran
  pub early_after : (s t : State) (xs ys : List Act) (a b c : Option (List ℕ)) (e : JobError)
      → AllRan Steps s xs t a b → EndsEarly g mid at t ys b c e → EndsEarly g began at s (xs ++ ys) a c e
  early_after s t xs ys a b c e ran back =
      course_after Steps (EndsLast g began at c e) s t xs ys a b ran (early_since t ys b c e back)

  pub jobs_since : {V : Type 0} (s : State) (jobs : List Job) (a b : Option (List ℕ)) (answers : V → List Answer)
      (r : Result V JobError) → EndsJobs g mid at s jobs a b answers r → EndsJobs g began at s jobs a b answers r
  jobs_since s jobs a b answers (Ok v) ended = ended
  jobs_since s jobs a b answers (Err e) (acts, first, early) = (acts, first, early_since s acts a b e early)
