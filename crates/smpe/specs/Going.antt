-- How a call goes over a store, whatever its tables hold: they need not stand for a state.
use Rattle.std.specs.Prelude.{◌≡◌, ◌⊎◌, ℕ, List, [], ◌∷◌, ◌++◌, map, Option, None, Result, Ok, Err}
use Rattle.sqlite.specs.Store.{Ghosts}
use Rattle.sqlite.specs.Held.{Held, state}
use Rattle.sqlite.specs.State.{HasCleanDisk}
use Rattle.terms.specs.Types as terms
use Rattle.terms.specs.Types.{Text, Command}
use Rattle.terms.specs.Commands.{CntlFault, IsCommandFile, IsCommandFileFault}
use Rattle.machine.specs.Outcome.{Outcome, Control, job_code}
use Rattle.machine.specs.Machine.{Act, Begin, Perform, Faulty, Define, Job, RunFiles, NewZone}
use Rattle.machine.specs.Machine.{Answer, Code, Defined, NotDefined}
use Rattle.store_schema.specs.declared.error.StoreError.TheVariants as store
use Rattle.store.specs.BadRows.{OnlyLoads, FoundNoState}
use Rattle.store.specs.Going.{CommitsOnce, GoesOver}
use Rattle.store.specs.Whole.{ShowsGlobal}
use Rattle.store.specs.declared.change.Change.TheVariants as change
use Rattle.store.specs.Own.{IsOwn}
use Rattle.smpe_session.specs.Writing.{IsOutcomeOf, IsRan, boundary_after}
use Rattle.smpe_jobs.specs.Course.{AllRan, Course, Unreported, AtNext}
use Rattle.smpe_jobs.specs.declared.error.JobError.{JobError}
use Rattle.smpe_jobs.specs.declared.error.JobError.TheVariants.{Memory, Store, Write}

-- The acts of a job over a store: its beginning and its commands, if it has any. If its command file has a fault, it
-- does not even begin.
abbrev pub Asks : Job → List Act → Type 0
Asks (RunFiles date cntl files) acts =
    ((cs : List Command) × IsCommandFile cntl cs × (acts ≡ Begin ∷ map (Perform date files) cs))
    ⊎ ((fault : CntlFault) × IsCommandFileFault cntl fault
    × (acts ≡ Faulty (record { number = fault.number; code = fault.code }) ∷ []))
Asks (NewZone d) acts = acts ≡ Define d ∷ []

-- The acts are those of the first jobs: as many as a call has begun.
abbrev pub AreFirstAsked : List Job → List Act → Type 0
AreFirstAsked [] acts = acts ≡ []
AreFirstAsked (job ∷ more) acts =
    (acts ≡ []) ⊎ ((front back : List Act) × Asks job front × AreFirstAsked more back × (acts ≡ front ++ back))

-- a store, and the boundary of the job that runs over it
abbrev pub At : Type 0 → Type 0
At S = Held S × Option Text

module _ {S : Type 0} (g : Ghosts S) where
  -- The store before an act that ran, the store after it, each with the boundary, and what was reported. A job's
  -- beginning has found the rows of a global zone, and has left the store as it was. The fault of a command file has
  -- not asked the store. None of them, nor the definition of a zone, leaves a boundary. The header of a command is its
  -- own and names the boundary, which only a SET that ran moves. A command that was refused has left the store as it
  -- was. One that ran, or the definition of a zone, has made at most one change of its own, a command one of the zone
  -- that its header names.
  abbrev pub ActRan : At S → Act → At S → List Outcome → Type 0
  ActRan old Begin new outcomes = OnlyLoads g old.0 new.0 × (new.1 ≡ None) × (outcomes ≡ [])
      × (HasCleanDisk (state g new.0) → (global : terms.Global) × ShowsGlobal g old.0 global)
  ActRan old (Faulty fault) new outcomes =
      (new.0 ≡ old.0) × (new.1 ≡ None) × (outcomes ≡ Control fault ∷ [])
  ActRan old (Perform date files c) new outcomes = (outcome : Outcome) × (outcomes ≡ outcome ∷ [])
      × IsOutcomeOf c old.1 outcome × (new.1 ≡ boundary_after c outcome old.1)
      × GoesOver g old.0 new.0 (λ change. IsOwn (Perform date files c) change × IsRan change outcome) {E = JobError}
      (Ok outcome)
  ActRan old (Define d) new outcomes = (outcomes ≡ []) × (new.1 ≡ None)
      × GoesOver g old.0 new.0 (IsOwn (Define d)) {E = JobError} (Ok outcomes)

  -- The acts went to their end.
  abbrev pub ActsRan : At S → At S → List Act → Option (List ℕ) → Option (List ℕ) → Type 0
  ActsRan old new acts taken taken' = AllRan ActRan old acts new taken taken'

  module _ (new : Held S) (taken' : Option (List ℕ)) where
    -- The act failed. It has loaded, or failed to commit one of its own changes, and is not reported.
    abbrev pub Fails : JobError → At S → Option (List ℕ) → Act → Type 0
    Fails error before had act =
        GoesOver g before.0 new (IsOwn act) {X = Unit {0}} (Err error) × (had ≡ taken')

    -- Its error was this one. If the error says that there is no state, there is none; and none says that the schema is
    -- another. Or the sink failed, and the store is as the act left it.
    abbrev pub FailsBy : JobError → At S → Option (List ℕ) → Act → Type 0
    FailsBy Memory before had act = Fails Memory before had act
    FailsBy (Store store.Fault) before had act = Fails (Store store.Fault) before had act
    FailsBy (Store store.NoState) before had act = Fails (Store store.NoState) before had act
        × (HasCleanDisk (state g new) → FoundNoState g before.0 new)
    FailsBy (Store _) before had act = ⊥
    FailsBy Write before had act = Unreported ActRan (λ after. after.0 ≡ new) taken' before had act

    -- The call ended by this error: by that of the next act, or because memory ran out before that began.
    abbrev pub GoesLast : JobError → At S → Option (List ℕ) → List Act → Type 0
    GoesLast error before had rest =
        AtNext (FailsBy error) before had rest ⊎ ((error ≡ Memory) × (before.0 ≡ new) × (had ≡ taken'))

  module _ (old : At S) (new : Held S) (acts : List Act) (taken taken' : Option (List ℕ)) where
    -- The acts ended early, by this error.
    abbrev pub GoesEarly : JobError → Type 0
    GoesEarly error = Course ActRan (GoesLast new taken' error) old acts taken

  module _ (old new : At S) (acts : List Act) (taken taken' : Option (List ℕ)) where
    -- Commands go in this way: to their end, with the greatest return code of what they reported, or to an error.
    abbrev pub GoesCommands : Result ℕ JobError → Type 0
    GoesCommands (Ok code) = (ran : ActsRan old new acts taken taken') × (code ≡ job_code ran.outcomes)
    GoesCommands (Err error) = GoesEarly old new.0 acts taken taken' error

  -- What an answer says about a job that reported these outcomes. Its return code is the greatest of theirs. A zone
  -- that is defined was added in one commit, and one that is not defined has left the store as it was.
  abbrev pub Tells : Answer → Job → Held S → Held S → List Outcome → Type 0
  Tells answer (RunFiles date cntl files) old new outcomes = answer ≡ Code (job_code outcomes)
  Tells (Code n) (NewZone d) old new outcomes = ⊥
  Tells Defined (NewZone d) old new outcomes =
      CommitsOnce g old new {E = JobError} (change.NewZone d.name d.kind d.srel d.related) (Ok outcomes)
  Tells (NotDefined why) (NewZone d) old new outcomes = OnlyLoads g old new

  -- The job went to its end, and this is its answer. It begins without a boundary.
  pub record JobRan (old : Held S) (job : Job) (new : Held S) (taken taken' : Option (List ℕ)) (answer : Answer) :
      Type 0 where
    pub acts : List Act
    pub asks : Asks job acts
    pub boundary : Option Text
    pub ran : ActsRan (old, None) (new, boundary) acts taken taken'
    pub tells : Tells answer job old new ran.outcomes

  -- So did jobs, one after the other.
  abbrev pub JobsRan : Held S → List Job → Held S → Option (List ℕ) → Option (List ℕ) → List Answer → Type 0
  JobsRan old [] new taken taken' answers = (new ≡ old) × (taken' ≡ taken) × (answers ≡ [])
  JobsRan old (job ∷ more) new taken taken' answers =
      (mid : Held S) × (had : Option (List ℕ)) × (answer : Answer) × (later : List Answer)
      × JobRan old job mid taken had answer × JobsRan mid more new had taken' later
      × (answers ≡ answer ∷ later)

  module _ (old new : Held S) where
    -- Jobs ended early, by this error.
    abbrev pub GoesAmong : List Job → Option (List ℕ) → Option (List ℕ) → JobError → Type 0
    GoesAmong jobs taken taken' error =
        (acts : List Act) × AreFirstAsked jobs acts × GoesEarly (old, None) new acts taken taken' error

    -- a job goes in this way, with these answers
    abbrev pub GoesJob : Job → Option (List ℕ) → Option (List ℕ) → {X : Type 0} → (X → Answer) → Result X JobError
        → Type 0
    GoesJob job taken taken' answer (Ok x) = JobRan old job new taken taken' (answer x)
    GoesJob job taken taken' answer (Err error) = GoesAmong (job ∷ []) taken taken' error

    -- and so do jobs
    abbrev pub GoesJobs : List Job → Option (List ℕ) → Option (List ℕ) → {X : Type 0} → (X → List Answer)
        → Result X JobError → Type 0
    GoesJobs jobs taken taken' answers (Ok x) = JobsRan old jobs new taken taken' (answers x)
    GoesJobs jobs taken taken' answers (Err error) = GoesAmong jobs taken taken' error
