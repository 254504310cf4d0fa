-- The course of a call, from those of its parts.
use Rattle.std.proofs.Common.{◌≡◌, ◌≢◌, ℕ, List, [], ◌∷◌, ◌++◌, Option, Result, Ok, Err, map, refl, sym, ◌∙◌, ap, subst}
use Rattle.std.proofs.Common.{append-nil, inl, inr, max, ap₂, arith, None}
use Rattle.std.specs.Io.KnownBytes.{Appends}
use Rattle.std.specs.List.{flat_map}
use Rattle.std.specs.Result.{IsErrAnd}
use Rattle.std.proofs.lemmas.List.{map-append}
use Rattle.std.proofs.lemmas.Result.{err_from_is_err_and}
use Rattle.sqlite.specs.Store.{Ghosts}
use Rattle.sqlite.specs.Held.{Held, state}
use Rattle.sqlite.specs.State.{HasCleanDisk}
use Rattle.terms.specs.Types.{Text, Command}
use Rattle.terms.specs.Commands.{CntlFault, IsCommandFile, IsCommandFileFault}
use Rattle.machine.specs.State.{ZoneDefinition, ZoneFault}
use Rattle.machine.specs.Outcome.{Outcome, ControlFault, Control, outcome_code, job_code}
use Rattle.machine.specs.Report.{text}
use Rattle.machine.specs.Runs.{Runs}
use Rattle.machine.specs.Machine.{Files, Act, Begin, Perform, Faulty, Define, Job, RunFiles, NewZone}
use Rattle.machine.specs.Machine.{Answer, Code, Defined, NotDefined}
use Rattle.store_schema.specs.declared.error.StoreError.{StoreError}
use Rattle.store_schema.specs.declared.error.StoreError.TheVariants as store
use Rattle.report.specs.Sent.{WrotePart}
use Rattle.store.specs.BadRows.{FoundNoState, OnlyLoads}
use Rattle.store.specs.Going.{CommitsOnce, GoesOver}
use Rattle.store.specs.declared.change.Change.{Change}
use Rattle.store.specs.declared.change.Change.TheVariants as change
use Rattle.store.proofs.Going.{alone_loads, goes_err, goes_ok}
use Rattle.store.specs.Own.{IsOwn, IsOwnOf}
use Rattle.smpe_session.specs.declared.session.Performed.{Performed}
use Rattle.smpe_session.specs.Writing.{IsOutcomeOf, IsRan, AnswersRun, boundary_after}
use Rattle.smpe_jobs.specs.declared.error.JobError.{JobError}
use Rattle.smpe_jobs.specs.declared.error.JobError.TheVariants.{Memory, Store, Write}
use Rattle.smpe_jobs.specs.Errors.{job_error}
use Rattle.smpe.specs.Going.{Asks, AreFirstAsked, ActRan, ActsRan, FailsBy, GoesLast, GoesEarly, GoesCommands, Tells}
use Rattle.smpe.specs.Going.{At, JobRan, JobsRan, GoesAmong, GoesJob, GoesJobs}
use Rattle.smpe_jobs.proofs.Courses.{ran_none, ran_quiet, ran_one, ran_more, course_first, course_after, course_more}
use Rattle.smpe_jobs.proofs.Courses.{next_more, unreported}
use Rattle.smpe.proofs.Commanding.{codes_append}

-- no act of these jobs
none_asked : (jobs : List Job) → AreFirstAsked jobs []
none_asked [] = refl
none_asked (job ∷ more) = inl refl

-- the acts of the only job
only_asked : (job : Job) (acts : List Act) → Asks job acts → AreFirstAsked (job ∷ []) acts
only_asked job acts asks = inr (acts, [], asks, refl, sym (append-nil acts))

-- acts of first jobs are so where more jobs follow
asked_more : (jobs more : List Job) (acts : List Act) → AreFirstAsked jobs acts → AreFirstAsked (jobs ++ more) acts
asked_more [] [] acts is = is
asked_more [] (job ∷ more) acts is = inl is
asked_more (job ∷ jobs) more acts (inl is) = inl is
asked_more (job ∷ jobs) more acts (inr (front, back, asks, rest, is)) =
    inr (front, back, asks, asked_more jobs more back rest, is)

-- a store, with a boundary
abbrev pub placed : {S : Type 0} → Held S → Option Text → At S
placed at boundary = (at, boundary)

-- what may begin a job: no command
abbrev IsFresh : Act → Type 0
IsFresh (Perform date files c) = ⊥
IsFresh _ = Unit {0}

abbrev BeginsFresh : List Act → Type 0
BeginsFresh [] = Unit {0}
BeginsFresh (act ∷ acts) = IsFresh act

asks_fresh : (job : Job) (front back : List Act) → Asks job front → BeginsFresh (front ++ back)
asks_fresh (RunFiles date cntl files) front back (inl (cs, is, are)) =
    subst (λ acts. BeginsFresh (acts ++ back)) (sym are) tt
asks_fresh (RunFiles date cntl files) front back (inr (fault, is, are)) =
    subst (λ acts. BeginsFresh (acts ++ back)) (sym are) tt
asks_fresh (NewZone d) front back are = subst (λ acts. BeginsFresh (acts ++ back)) (sym are) tt

asked_fresh : (jobs : List Job) (acts : List Act) → AreFirstAsked jobs acts → BeginsFresh acts
asked_fresh [] acts none = subst BeginsFresh (sym none) tt
asked_fresh (job ∷ more) acts (inl none) = subst BeginsFresh (sym none) tt
asked_fresh (job ∷ more) acts (inr (front, back, asks, rest, are)) =
    subst BeginsFresh (sym are) (asks_fresh job front back asks)

module _ {S : Type 0} (g : Ghosts S) where
  -- ---- acts

  abbrev pub passed_none : (at : At S) (taken : Option (List ℕ)) → ActsRan g at at [] taken taken
  passed_none at taken = ran_none (ActRan g) at taken

  -- one that reports this
  abbrev pub passed_one : (old new : At S) (act : Act) (outcome : Outcome) (a b : Option (List ℕ))
      → ActRan g old act new (outcome ∷ []) → Appends a b (text outcome) → ActsRan g old new (act ∷ []) a b
  passed_one old new act outcome a b passes appends = ran_one (ActRan g) old new act outcome a b passes appends

  -- ---- acts that end early

  -- the first act failed so
  pub early_first : (old : At S) (new : Held S) (act : Act) (more : List Act) (a b : Option (List ℕ)) (e : JobError)
      → FailsBy g new b e old a act → GoesEarly g old new (act ∷ more) a b e
  early_first old new act more a b e fails =
      course_first (ActRan g) (GoesLast g new b e) old (act ∷ more) a (inl fails)

  -- memory was short before the first one
  pub early_none : (at : At S) (acts : List Act) (taken : Option (List ℕ)) → GoesEarly g at at.0 acts taken taken Memory
  early_none at acts taken =
      course_first (ActRan g) (GoesLast g at.0 taken Memory) at acts taken (inr (refl, refl, refl))

  -- acts that ran, and then some that ended early
  pub early_after : (old mid : At S) (new : Held S) (xs ys : List Act) (a b c : Option (List ℕ)) (e : JobError)
      → ActsRan g old mid xs a b → GoesEarly g mid new ys b c e → GoesEarly g old new (xs ++ ys) a c e
  early_after old mid new xs ys a b c e front back =
      course_after (ActRan g) (GoesLast g new c e) old mid xs ys a b front back

  last_more : (new : Held S) (c : Option (List ℕ)) (e : JobError) (more : List Act) (before : At S)
      (had : Option (List ℕ)) (rest : List Act) → GoesLast g new c e before had rest
      → GoesLast g new c e before had (rest ++ more)
  last_more new c e more before had rest (inl fails) = inl (next_more (FailsBy g new c e) before had rest more fails)
  last_more new c e more before had rest (inr short) = inr short

  -- with acts behind that were never begun
  early_more : (old : At S) (new : Held S) (xs ys : List Act) (a c : Option (List ℕ)) (e : JobError)
      → GoesEarly g old new xs a c e → GoesEarly g old new (xs ++ ys) a c e
  early_more old new xs ys a c e early =
      course_more (ActRan g) (GoesLast g new c e) old xs ys a (last_more new c e ys) early

  -- ---- the boundary does not matter to what begins a job

  ran_from : (at : Held S) (b b' : Option Text) (act : Act) (after : At S) (outcomes : List Outcome) → IsFresh act
      → ActRan g (at, b) act after outcomes → ActRan g (at, b') act after outcomes
  ran_from at b b' Begin after outcomes fresh ran = ran
  ran_from at b b' (Perform date files c) after outcomes fresh ran = absurd fresh
  ran_from at b b' (Faulty fault) after outcomes fresh ran = ran
  ran_from at b b' (Define d) after outcomes fresh ran = ran

  fails_from : (at : Held S) (b b' : Option Text) (new : Held S) (c : Option (List ℕ)) (e : JobError)
      (had : Option (List ℕ)) (act : Act) → IsFresh act → FailsBy g new c e (at, b) had act
      → FailsBy g new c e (at, b') had act
  fails_from at b b' new c Memory had act fresh fails = fails
  fails_from at b b' new c (Store store.Fault) had act fresh fails = fails
  fails_from at b b' new c (Store store.NoState) had act fresh fails = fails
  fails_from at b b' new c (Store store.OtherSchema) had act fresh fails = absurd fails
  fails_from at b b' new c (Store store.Memory) had act fresh fails = absurd fails
  fails_from at b b' new c Write had act fresh (after, outcomes, ran, left, part) =
      (after, outcomes, ran_from at b b' act after outcomes fresh ran, left, part)

  last_from : (at : Held S) (b b' : Option Text) (new : Held S) (c : Option (List ℕ)) (e : JobError)
      (had : Option (List ℕ)) (acts : List Act) → BeginsFresh acts → GoesLast g new c e (at, b) had acts
      → GoesLast g new c e (at, b') had acts
  last_from at b b' new c e had [] fresh (inl none) = absurd none
  last_from at b b' new c e had (act ∷ acts) fresh (inl fails) = inl (fails_from at b b' new c e had act fresh fails)
  last_from at b b' new c e had acts fresh (inr short) = inr short

  early_by : (at : Held S) (b b' : Option Text) (new : Held S) (acts : List Act) (a c : Option (List ℕ)) (e : JobError)
      (done rest : List Act) (before : At S) (had : Option (List ℕ)) (outcomes : List Outcome) → BeginsFresh acts
      → acts ≡ done ++ rest → Runs (ActRan g) (at, b) done before outcomes → Appends a had (flat_map text outcomes)
      → GoesLast g new c e before had rest → GoesEarly g (at, b') new acts a c e
  early_by at b b' new acts a c e [] rest before had outcomes fresh are runs appends last = record {
    done = [];
    rest = rest;
    acts_are = are;
    before = (at, b');
    had = had;
    ran = record { outcomes = outcomes; runs = (refl, runs.1); appends = appends };
    last = last_from at b b' new c e had rest (subst BeginsFresh are fresh)
        (subst (λ (w : At S). GoesLast g new c e w had rest) runs.0 last);
  }
  early_by at b b' new acts a c e (act ∷ done) rest before had outcomes fresh are (m, front, back, step, more, is) appends
      last = record {
        done = act ∷ done;
        rest = rest;
        acts_are = are;
        before = before;
        had = had;
        ran = record {
          outcomes = outcomes;
          runs = (m, front, back, ran_from at b b' act m front (subst BeginsFresh are fresh) step, more, is);
          appends = appends;
        };
        last = last;
      }

  early_from : (at : Held S) (b b' : Option Text) (new : Held S) (acts : List Act) (a c : Option (List ℕ))
      (e : JobError) → BeginsFresh acts → GoesEarly g (at, b) new acts a c e → GoesEarly g (at, b') new acts a c e
  early_from at b b' new acts a c e fresh early =
      early_by at b b' new acts a c e early.done early.rest early.before early.had early.ran.outcomes fresh
      early.acts_are early.ran.runs early.ran.appends early.last

  -- ---- how one act fails

  -- by an error of the store
  pub fails_by : {X E : Type 0} (IsMine : Change → Type 0) (old : At S) (new : Held S) (act : Act) (taken : Option (List ℕ))
      (e : StoreError) (f : E) → ((change : Change) → IsMine change → IsOwn act change)
      → GoesOver g old.0 new IsMine {X = X} {E = E} (Err f)
      → (HasCleanDisk (state g new) → e ≡ store.NoState → FoundNoState g old.0 new) → e ≢ store.OtherSchema
      → FailsBy g new taken (job_error e) old taken act
  fails_by IsMine old new act taken store.Fault f more goes none which =
      (goes_err g old.0 new IsMine (IsOwn act) f (Store store.Fault) more goes, refl)
  fails_by IsMine old new act taken store.OtherSchema f more goes none which = absurd (which refl)
  fails_by IsMine old new act taken store.NoState f more goes none which =
      ((goes_err g old.0 new IsMine (IsOwn act) f (Store store.NoState) more goes, refl), λ clean. none clean refl)
  fails_by IsMine old new act taken store.Memory f more goes none which =
      (goes_err g old.0 new IsMine (IsOwn act) f Memory more goes, refl)

  -- by its report, which broke off
  pub fails_told : (old new : At S) (act : Act) (outcome : Outcome) (a b : Option (List ℕ))
      → ActRan g old act new (outcome ∷ []) → WrotePart a b (text outcome) → FailsBy g new.0 b Write old a act
  fails_told old new act outcome a b passes part =
      unreported (ActRan g) (λ after. after.0 ≡ new.0) old new act outcome a b passes refl part

  -- ---- commands

  -- what a command does is told by this outcome
  pub performs_passes : (old new : At S) (date : Text) (files : Files) (c : Command) (performed : Performed)
      (outcome : Outcome) → IsOutcomeOf c old.1 outcome → new.1 ≡ boundary_after c outcome old.1
      → ((change : Change) → AnswersRun change performed → IsRan change outcome)
      → GoesOver g old.0 new.0 (λ change. IsOwnOf c change × AnswersRun change performed) {E = StoreError}
      (Ok performed)
      → ActRan g old (Perform date files c) new (outcome ∷ [])
  performs_passes old new date files c performed outcome of moved ran goes = (
    outcome,
    refl,
    of,
    moved,
    goes_ok g old.0 new.0 (λ change. IsOwnOf c change × AnswersRun change performed)
        (λ change. IsOwnOf c change × IsRan change outcome) performed outcome
        (λ change own. (own.0, ran change own.1)) goes,
  )

  -- the exit of a `?`
  pub goes_early : (old new : At S) (acts : List Act) (a b : Option (List ℕ)) (r : Result ℕ JobError)
      (e : JobError) → IsErrAnd r (λ y. y ≡ e) → GoesEarly g old new.0 acts a b e
      → GoesCommands g old new acts a b r
  goes_early old new acts a b r e failed early =
      let p = err_from_is_err_and r failed in
      subst (λ q. GoesCommands g old new acts a b q) (sym (p.1 ∙ ap (λ y. Err y) p.2)) early

  -- no command yet
  pub goes_none : (at : At S) (taken : Option (List ℕ)) → GoesCommands g at at [] taken taken (Ok 0)
  goes_none at taken = (passed_none at taken, refl)

  -- a command that reports this
  pub goes_one : (old new : At S) (act : Act) (outcome : Outcome) (a b : Option (List ℕ)) (code : ℕ)
      → ActRan g old act new (outcome ∷ []) → Appends a b (text outcome) → code ≡ outcome_code outcome
      → GoesCommands g old new (act ∷ []) a b (Ok code)
  goes_one old new act outcome a b code passes appends told =
      let greatest : code ≡ job_code (outcome ∷ []) = omega (arith, told) in
      (passed_one old new act outcome a b passes appends, greatest)

  module _ (date : Text) (files : Files) (old mid new : At S) (xs ys : List Command) (a b c : Option (List ℕ))
      (code : ℕ) (front : GoesCommands g old mid (map (Perform date files) xs) a b (Ok code)) where
    -- commands, and then others
    pub commands_passed : (next : ℕ) → GoesCommands g mid new (map (Perform date files) ys) b c (Ok next)
        → GoesCommands g old new (map (Perform date files) (xs ++ ys)) a c (Ok (max code next))
    commands_passed next back =
        subst (λ acts. GoesCommands g old new acts a c (Ok (max code next)))
        (sym (map-append (Perform date files) xs ys)) (
          ran_more (ActRan g) old mid new (map (Perform date files) xs) (map (Perform date files) ys) a b c front.0
              back.0,
          ap₂ max front.1 back.1 ∙ sym (codes_append front.0.outcomes back.0.outcomes),
        )

    -- commands, and then some that ended early, with others behind that were never begun
    pub early_commands : (more : List Command) (e : JobError)
        → GoesEarly g mid new.0 (map (Perform date files) ys) b c e
        → GoesEarly g old new.0 (map (Perform date files) ((xs ++ ys) ++ more)) a c e
    early_commands more e back =
        let perform = Perform date files in
        subst (λ acts. GoesEarly g old new.0 acts a c e) (sym (map-append perform (xs ++ ys) more))
        (early_more old new.0 (map perform (xs ++ ys)) (map perform more) a c e
        (subst (λ acts. GoesEarly g old new.0 acts a c e) (sym (map-append perform xs ys))
        (early_after old mid new.0 (map perform xs) (map perform ys) a b c e front.0 back)))

  -- ---- jobs

  pub job_early : {X : Type 0} (old new : Held S) (job : Job) (a b : Option (List ℕ)) (answer : X → Answer)
      (r : Result X JobError) (e : JobError) → IsErrAnd r (λ y. y ≡ e) → GoesAmong g old new (job ∷ []) a b e
      → GoesJob g old new job a b answer r
  job_early old new job a b answer r e failed stopped =
      let p = err_from_is_err_and r failed in
      subst (GoesJob g old new job a b answer) (sym (p.1 ∙ ap (λ y. Err y) p.2)) stopped

  -- memory was short before the first job
  pub jobs_unbegun : (at : Held S) (jobs : List Job) (taken : Option (List ℕ))
      → GoesAmong g at at jobs taken taken Memory
  jobs_unbegun at jobs taken = ([], none_asked jobs, early_none (at, None) [] taken)

  module _ (date : Text) (cntl : List ℕ) (files : Files) where
    -- the command file is at fault, and that is reported
    pub faulty_goes : (at : Held S) (fault : CntlFault) (a b : Option (List ℕ)) (code : ℕ)
        → IsCommandFileFault cntl fault
        → Appends a b (text (Control (record { number = fault.number; code = fault.code }))) → code ≡ 12
        → JobRan g at (RunFiles date cntl files) at a b (Code code)
    faulty_goes at fault a b code is appends told =
        let control : ControlFault = record { number = fault.number; code = fault.code } in
        record {
          acts = Faulty control ∷ [];
          asks = inr (fault, is, refl);
          boundary = None;
          ran = passed_one (at, None) (at, None) (Faulty control) (Control control) a b (refl, refl, refl) appends;
          tells = ap Code told;
        }

    -- or the report of that broke off
    pub faulty_early : (at : Held S) (fault : CntlFault) (a b : Option (List ℕ)) → IsCommandFileFault cntl fault
        → WrotePart a b (text (Control (record { number = fault.number; code = fault.code })))
        → GoesAmong g at at (RunFiles date cntl files ∷ []) a b Write
    faulty_early at fault a b is part =
        let control : ControlFault = record { number = fault.number; code = fault.code } in (
          Faulty control ∷ [],
          only_asked (RunFiles date cntl files) (Faulty control ∷ []) (inr (fault, is, refl)),
          early_first (at, None) at (Faulty control) [] a b Write
              (fails_told (at, None) (at, None) (Faulty control) (Control control) a b (refl, refl, refl) part),
        )

    -- the job could not begin
    pub begin_early : (old new : Held S) (cs : List Command) (taken : Option (List ℕ)) (e : JobError)
        → IsCommandFile cntl cs → FailsBy g new taken e (old, None) taken Begin
        → GoesAmong g old new (RunFiles date cntl files ∷ []) taken taken e
    begin_early old new cs taken e is fails =
        let acts = map (Perform date files) cs in (
          Begin ∷ acts,
          only_asked (RunFiles date cntl files) (Begin ∷ acts) (inl (cs, is, refl)),
          early_first (old, None) new Begin acts taken taken e fails,
        )

    -- it began, and its commands went so
    pub begun_goes : (old at new : Held S) (boundary : Option Text) (cs : List Command) (a b : Option (List ℕ))
        (r : Result ℕ JobError) → IsCommandFile cntl cs → ActRan g (old, None) Begin (at, None) []
        → GoesCommands g (at, None) (new, boundary) (map (Perform date files) cs) a b r
        → GoesJob g old new (RunFiles date cntl files) a b Code r
    begun_goes old at new boundary cs a b (Ok code) is began went =
        let acts = map (Perform date files) cs in
        record {
          acts = Begin ∷ acts;
          asks = inl (cs, is, refl);
          boundary = boundary;
          ran = ran_more (ActRan g) (old, None) (at, None) (new, boundary) (Begin ∷ []) acts a a b
              (ran_quiet (ActRan g) (old, None) (at, None) Begin a began) went.0;
          tells = ap Code went.1;
        }
    begun_goes old at new boundary cs a b (Err e) is began early =
        let acts = map (Perform date files) cs in (
          Begin ∷ acts,
          only_asked (RunFiles date cntl files) (Begin ∷ acts) (inl (cs, is, refl)),
          early_after (old, None) (at, None) new (Begin ∷ []) acts a a b e
              (ran_quiet (ActRan g) (old, None) (at, None) Begin a began) early,
        )

  -- a commit is answered otherwise
  once_as : {X E Y F : Type 0} (old new : Held S) (change : Change) (x : X) (y : Y)
      → CommitsOnce g old new {X = X} {E = E} change (Ok x) → CommitsOnce g old new {X = Y} {E = F} change (Ok y)
  once_as old new change x y once = record {
    before = once.before;
    loads = once.loads;
    commits = record {
      made = once.commits.made;
      kept = λ clean. tt;
      crash = once.commits.crash;
    };
  }

  -- a zone is defined
  pub defined_goes : {X E : Type 0} (old new : Held S) (d : ZoneDefinition) (taken : Option (List ℕ)) (x : X)
      → CommitsOnce g old new {X = X} {E = E} (change.NewZone d.name d.kind d.srel d.related) (Ok x)
      → JobRan g old (NewZone d) new taken taken Defined
  defined_goes old new d taken x once =
      let added = change.NewZone d.name d.kind d.srel d.related in
      let told = once_as old new added x [] once in
      record {
        acts = Define d ∷ [];
        asks = refl;
        boundary = None;
        ran = ran_quiet (ActRan g) (old, None) (new, None) (Define d) taken (refl, refl, inr (added, refl, told));
        tells = told;
      }

  -- or it is refused
  pub refused_goes : (old new : Held S) (d : ZoneDefinition) (why : ZoneFault) (taken : Option (List ℕ))
      → OnlyLoads g old new → JobRan g old (NewZone d) new taken taken (NotDefined why)
  refused_goes old new d why taken loads = record {
    acts = Define d ∷ [];
    asks = refl;
    boundary = None;
    ran = ran_quiet (ActRan g) (old, None) (new, None) (Define d) taken
        (refl, refl, inl (alone_loads g old new [] loads));
    tells = loads;
  }

  -- or its definition failed
  pub define_early : (old new : Held S) (d : ZoneDefinition) (taken : Option (List ℕ)) (e : JobError)
      → FailsBy g new taken e (old, None) taken (Define d) → GoesAmong g old new (NewZone d ∷ []) taken taken e
  define_early old new d taken e fails = (
    Define d ∷ [],
    only_asked (NewZone d) (Define d ∷ []) refl,
    early_first (old, None) new (Define d) [] taken taken e fails,
  )

  -- ---- lists of jobs

  pub jobs_early : {X : Type 0} (old new : Held S) (jobs : List Job) (a b : Option (List ℕ)) (answers : X → List Answer)
      (r : Result X JobError) (e : JobError) → IsErrAnd r (λ y. y ≡ e) → GoesAmong g old new jobs a b e
      → GoesJobs g old new jobs a b answers r
  jobs_early old new jobs a b answers r e failed stopped =
      let p = err_from_is_err_and r failed in
      subst (GoesJobs g old new jobs a b answers) (sym (p.1 ∙ ap (λ y. Err y) p.2)) stopped

  -- jobs, and then one more
  pub jobs_one_more : (old mid new : Held S) (jobs : List Job) (job : Job) (a b c : Option (List ℕ))
      (answers : List Answer) (answer : Answer) → JobsRan g old jobs mid a b answers
      → JobRan g mid job new b c answer → JobsRan g old (jobs ++ job ∷ []) new a c (answers ++ answer ∷ [])
  jobs_one_more old mid new [] job a b c answers answer (at, had, none) passed = (
    new,
    c,
    answer,
    [],
    subst (λ at. JobRan g at job new a c answer) at
        (subst (λ had. JobRan g mid job new had c answer) had passed),
    (refl, refl, refl),
    ap (λ before. before ++ answer ∷ []) none,
  )
  jobs_one_more old mid new (first ∷ jobs) job a b c answers answer (at, had, told, later, ran, rest, are) passed = (
    at,
    had,
    told,
    later ++ answer ∷ [],
    ran,
    jobs_one_more at mid new jobs job had b c later answer rest passed,
    ap (λ before. before ++ answer ∷ []) are,
  )

  -- jobs that went to their end, as acts, and then some of others that ended early
  pub jobs_stopped : (old mid new : Held S) (jobs more : List Job) (a b c : Option (List ℕ)) (answers : List Answer)
      (e : JobError) → JobsRan g old jobs mid a b answers → GoesAmong g mid new more b c e
      → GoesAmong g old new (jobs ++ more) a c e
  jobs_stopped old mid new [] more a b c answers e (at, had, none) stopped =
      subst (λ at. GoesAmong g at new more a c e) at
      (subst (λ had. GoesAmong g mid new more had c e) had stopped)
  jobs_stopped old mid new (job ∷ jobs) more a b c answers e (at, had, told, later, ran, rest, are) stopped =
      let behind = jobs_stopped at mid new jobs more had b c later e rest stopped in (
        ran.acts ++ behind.0,
        inr (ran.acts, behind.0, ran.asks, behind.1, refl),
        early_after (old, None) (at, ran.boundary) new ran.acts behind.0 a had c e ran.ran
            (early_from at None ran.boundary new behind.0 had c e (asked_fresh (jobs ++ more) behind.0 behind.1)
            behind.2),
      )

  -- and with jobs behind that were never begun
  pub stopped_more : (old new : Held S) (jobs more : List Job) (a b : Option (List ℕ)) (e : JobError)
      → GoesAmong g old new jobs a b e → GoesAmong g old new (jobs ++ more) a b e
  stopped_more old new jobs more a b e (acts, first, early) = (acts, asked_more jobs more acts first, early)
