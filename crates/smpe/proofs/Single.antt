-- How one job ends.
use Rattle.std.proofs.Common.{◌≡◌, ℕ, List, [], ◌∷◌, Option, None, Result, Ok, Err, IsTrue, map, refl, sym, ◌∙◌}
use Rattle.std.proofs.Common.{ap, subst, append-nil, inl, inr}
use Rattle.std.specs.List.{flat_map}
use Rattle.std.specs.Io.KnownBytes.{Appends}
use Rattle.std.specs.Result.{IsErrAnd}
use Rattle.std.proofs.KnownBytes.{Appends-nil}
use Rattle.std.proofs.lemmas.Result.{err_from_is_err_and}
use Rattle.sqlite.specs.Store.{Ghosts}
use Rattle.sqlite.specs.Held.{Held}
use Rattle.terms.specs.declared.codes.CommandCode.{CommandCode}
use Rattle.terms.specs.Types.{Text, Command}
use Rattle.terms.specs.Commands.{CntlFault, IsCommandFile, IsCommandFileFault}
use Rattle.machine.specs.State.{State, ZoneDefinition, define_zone}
use Rattle.machine.specs.Outcome.{ControlFault, Control}
use Rattle.machine.specs.Report.{text}
use Rattle.machine.specs.Machine as machine
use Rattle.machine.specs.Machine.{Files, Act, Begin, Perform, Faulty, Define, Steps, Job, RunFiles, NewZone, HasActs}
use Rattle.machine.specs.Machine.{AreFirstActs, RunsJob, Code, state_after, defined}
use Rattle.store_schema.specs.declared.error.StoreError.{StoreError}
use Rattle.store_schema.specs.declared.error.StoreError.TheVariants as store
use Rattle.report.specs.Sent.{WrotePart}
use Rattle.store.specs.Causes.{IsLater}
use Rattle.store.specs.Kept.{Keeps}
use Rattle.smpe_session.specs.declared.session.Session.{Session}
use Rattle.smpe_session.specs.Sessions.{HasBegun}
use Rattle.smpe_jobs.specs.declared.zone_error.ZoneFault.{ZoneFault}
use Rattle.smpe_jobs.specs.declared.zone_error.ZoneError.{ZoneError}
use Rattle.smpe_jobs.specs.declared.zone_error.ZoneError.TheVariants as zone_error
use Rattle.smpe_jobs.specs.ZoneDefinitions.{EndsDefine, fault_of, is_refused}
use Rattle.smpe_jobs.specs.declared.error.JobError.{JobError}
use Rattle.smpe_jobs.specs.declared.error.JobError.TheVariants.{Memory, Write}
use Rattle.smpe_jobs.specs.Ending.{EndsLast, EndsEarly, EndsAmong, EndsJob}
use Rattle.smpe.specs.Commands.{EndsCommands}
use Rattle.smpe_jobs.specs.Errors.{job_error}
use Rattle.smpe_jobs.proofs.Courses.{ran_quiet, course_after}
use Rattle.smpe_jobs.proofs.Early.{failed_first, broke_first, early_after}

-- an error that is a refusal
pub refused_so : (U : Type 0) {e : ZoneError} {why : ZoneFault} → e ≡ zone_error.Refused why
    → IsTrue (is_refused {U = U} (Err e))
refused_so U is = subst (λ e. IsTrue (is_refused {U = U} (Err e))) (sym is) refl

-- the acts of the only job
pub one_job : (job : Job) (acts : List Act) → HasActs job acts → AreFirstActs (job ∷ []) acts
one_job job acts has = inr (acts, [], has, refl, sym (append-nil acts))

abbrev unset : State → State
unset s = record s { boundary = None }

abbrev control : CntlFault → ControlFault
control fault = record { number = fault.number; code = fault.code }

pub control_same : {n m : ℕ} {a b : CommandCode} → n ≡ m → a ≡ b → text (Control (record { number = n; code = a }))
    ≡ text
    (Control (record { number = m; code = b }))
control_same {n} {m} {a} {b} numbers codes = ap (λ k. text (Control (record { number = k; code = a }))) numbers
    ∙ ap (λ k. text (Control (record { number = m; code = k }))) codes

module _ {S : Type 0} (g : Ghosts S) (began at : Held S) (s : State) where
  -- the exit of a `?`
  pub job_err : {V : Type 0} (job : Job) (a b : Option (List ℕ)) (answer : V → machine.Answer) (r : Result V JobError)
      (e : JobError)
      → IsErrAnd r (λ y. y ≡ e) → EndsAmong g began at s (job ∷ []) a b e → EndsJob g began at s job a b answer r
  job_err job a b answer r e failed ends =
      let p = err_from_is_err_and r failed in
      subst (EndsJob g began at s job a b answer) (sym (p.1 ∙ ap (λ y. Err y) p.2)) ends

  module _ (date : Text) (cntl : List ℕ) (files : Files) where
    -- the command file is at fault, and that is reported
    pub faulty_ran : (fault : CntlFault) (old new : Option (List ℕ)) (code : ℕ) → IsCommandFileFault cntl fault
        → Keeps g at s → Appends old new (text (Control (control fault))) → code ≡ 12
        → EndsJob g began at s (RunFiles date cntl files) old new Code (Ok code)
    faulty_ran fault old new code is keeps appends told = (
      unset s,
      flat_map text (Control (control fault) ∷ []),
      record {
        acts = Begin ∷ Faulty (control fault) ∷ [];
        has_acts = inr (fault, is, refl);
        outcomes = Control (control fault) ∷ [];
        runs = (
          unset s,
          [],
          Control (control fault) ∷ [],
          (refl, refl),
          (unset s, Control (control fault) ∷ [], [], (refl, refl), (refl, refl), refl),
          refl,
        );
        bytes_are = refl;
        answers = ap Code told;
      },
      keeps,
      subst (Appends old new) (sym (append-nil (text (Control (control fault))))) appends,
    )

    -- the report of that broke off
    pub faulty_broke : (fault : CntlFault) (old new : Option (List ℕ)) → IsCommandFileFault cntl fault → Keeps g at s
        → WrotePart old new (text (Control (control fault)))
        → EndsAmong g began at s (RunFiles date cntl files ∷ []) old new Write
    faulty_broke fault old new is keeps part = (
      Begin ∷ Faulty (control fault) ∷ [],
      one_job (RunFiles date cntl files) (Begin ∷ Faulty (control fault) ∷ []) (inr (fault, is, refl)),
      course_after Steps (EndsLast g began at new Write) s (unset s) (Begin ∷ []) (Faulty (control fault) ∷ []) old old
          (ran_quiet Steps s (unset s) Begin old (refl, refl))
          (broke_first g began at (unset s) (Faulty (control fault)) (unset s) (Control (control fault)) old new
          (refl, refl) keeps part),
    )

    -- the job could not begin
    pub unbegun : (cs : List Command) (taken : Option (List ℕ)) (e : StoreError) → IsCommandFile cntl cs
        → HasBegun g began at s (Err e)
        → EndsAmong g began at s (RunFiles date cntl files ∷ []) taken taken (job_error e)
    unbegun cs taken e is failed = (
      Begin ∷ map (Perform date files) cs,
      one_job (RunFiles date cntl files) (Begin ∷ map (Perform date files) cs)
          (inl (cs, is, refl)),
      failed_first g began at s Begin (map (Perform date files) cs) taken e failed,
    )

    -- it began, and its commands ended so
    pub begun : (before : Held S) (session : Session) (cs : List Command) (old new : Option (List ℕ))
        (r : Result ℕ JobError) → IsLater g began before → IsCommandFile cntl cs → Keeps g before s
        → EndsCommands g before at (unset s) session date files cs old new r
        → EndsJob g began at s (RunFiles date cntl files) old new Code r
    begun before session cs old new (Ok code) later is keeps (t, outcomes, runs, of, stands, appends, told) = (
      t,
      flat_map text outcomes,
      record {
        acts = Begin ∷ map (Perform date files) cs;
        has_acts = inl (cs, is, refl);
        outcomes = outcomes;
        runs = (unset s, [], outcomes, (refl, refl), runs, refl);
        bytes_are = refl;
        answers = ap Code told;
      },
      stands,
      appends,
    )
    begun before session cs old new (Err e) later is keeps early = (
      Begin ∷ map (Perform date files) cs,
      one_job (RunFiles date cntl files) (Begin ∷ map (Perform date files) cs) (inl (cs, is, refl)),
      early_after g began before at later s (unset s) (Begin ∷ []) (map (Perform date files) cs) old old new e
          (ran_quiet Steps s (unset s) Begin old (refl, refl)) early,
    )

  module _ (d : ZoneDefinition) (taken : Option (List ℕ)) where
    runs_define : (t : State) (answer : machine.Answer) → t ≡ state_after s (define_zone s d)
        → answer ≡ defined (define_zone s d) → RunsJob s (NewZone d) t [] answer
    runs_define t answer leads told = record {
      acts = Define d ∷ [];
      has_acts = refl;
      outcomes = [];
      runs = (t, [], [], (leads, refl), (refl, refl), refl);
      bytes_are = refl;
      answers = told;
    }

    pub define_done : (t : State) → define_zone s d ≡ Ok t → Keeps g at t
        → EndsJob g began at s (NewZone d) taken taken (λ answer. answer) (Ok machine.Defined)
    define_done t is keeps = (
      t,
      [],
      runs_define t machine.Defined (sym (ap (state_after s) is)) (sym (ap defined is)),
      keeps,
      Appends-nil taken,
    )

    -- an error that is this one
    abbrev Fails : ZoneError → Type 0
    Fails e = EndsDefine g began at s d {U = ℕ} (Err e)

    pub define_refused : (why : ZoneFault) (e : ZoneError) → e ≡ zone_error.Refused why → Fails e
        → EndsJob g began at s (NewZone d) taken taken (λ answer. answer) (Ok (machine.NotDefined (fault_of why)))
    define_refused why e told fails = by_fault (subst Fails told fails)
      where
        by_fault : Fails (zone_error.Refused why) → EndsJob g began at s (NewZone d) taken taken (λ answer. answer)
            (Ok (machine.NotDefined (fault_of why)))
        by_fault (is, keeps) = (
          s,
          [],
          runs_define s (machine.NotDefined (fault_of why)) (sym (ap (state_after s) is))
              (sym (ap defined is)),
          keeps,
          Appends-nil taken,
        )

    unbegun_definition : (e : JobError) → EndsEarly g began at s (Define d ∷ []) taken taken e
        → EndsAmong g began at s (NewZone d ∷ []) taken taken e
    unbegun_definition e early = (Define d ∷ [], one_job (NewZone d) (Define d ∷ []) refl, early)

    pub define_memory : (e : ZoneError) → e ≡ zone_error.Memory → Fails e
        → EndsAmong g began at s (NewZone d ∷ []) taken taken Memory
    define_memory e told fails =
        unbegun_definition Memory (failed_first g began at s (Define d) [] taken store.Memory (subst Fails told fails))

    pub define_fault : (fault : StoreError) (e : ZoneError) (result : JobError) → e ≡ zone_error.Store fault
        → result ≡ job_error fault → Fails e → EndsAmong g began at s (NewZone d ∷ []) taken taken result
    define_fault fault e result told becomes fails =
        subst (EndsAmong g began at s (NewZone d ∷ []) taken taken) (sym becomes)
        (by_fault fault (subst Fails told fails))
      where
        by_fault : (fault : StoreError) → Fails (zone_error.Store fault)
            → EndsAmong g began at s (NewZone d ∷ []) taken taken (job_error fault)
        by_fault store.Fault failed = unbegun_definition (job_error store.Fault)
            (failed_first g began at s (Define d) [] taken store.Fault failed)
        by_fault store.Memory impossible = absurd impossible
        by_fault store.OtherSchema impossible = absurd impossible
        by_fault store.NoState impossible = absurd impossible
