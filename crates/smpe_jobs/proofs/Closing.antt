-- How a job ends, its zones are closed where they were.
use Rattle.std.proofs.Common.{◌≡◌, ◌⊎◌, inl, inr, ℕ, List, [], ◌∷◌, Option, Result, Ok, Err, IsTrue, refl, sym}
use Rattle.std.proofs.Common.{◌∙◌, subst, rules}
use Rattle.std.specs.List.{AllByRecursion}
use Rattle.sqlite.specs.Store.{Ghosts}
use Rattle.sqlite.specs.Held.{Held, state}
use Rattle.sqlite.specs.State.{HasCleanDisk}
use Rattle.sqlite.specs.Schema.{Schema}
use Rattle.sqlite.specs.Tree.{Trees}
use Rattle.terms.proofs.Each.{recursion_front, recursion_back}
use Rattle.terms.specs.Closed.{AreClosed}
use Rattle.terms.specs.Forms.{IsZoneName, IsSrel}
use Rattle.machine.specs.State.{State, ZoneDefinition}
use Rattle.machine.specs.Machine as machine
use Rattle.machine.specs.Machine.{Act, Define, Job}
use Rattle.store_schema.specs.declared.error.StoreError.TheVariants as store
use Rattle.store_schema.specs.Create.{IsBlank}
use Rattle.store_schema.specs.Inventory.{Inventory}
use Rattle.store_schema.specs.Stands.{StandsFor}
use Rattle.store_schema.specs.Tables.{store_schema}
use Rattle.store_schema.proofs.OneState.{one_state}
use Rattle.store.specs.CallEnds.{StillKeeps}
use Rattle.store.specs.Kept.{kept, Keeps, IsAfter}
use Rattle.store.specs.View.{Leaves, IsFound}
use Rattle.smpe_jobs.proofs.Adding.{steps_defined}
use Rattle.store.proofs.Keeping.{inventory_kept, leaves_more}
use Rattle.machine_laws.specs.Storable.{HasActForms, HasJobForms}
use Rattle.machine_laws.proofs.StepKeeps.{IsClosedState, step_keeps}
use Rattle.machine_laws.proofs.JobsKeep.{first_formed, runs_keep, job_keeps, jobs_keep}
use Rattle.smpe_jobs.specs.declared.zone_error.ZoneError.{ZoneError}
use Rattle.smpe_jobs.specs.declared.zone_error.ZoneError.TheVariants as zone
use Rattle.smpe_jobs.specs.ZoneDefinitions.{EndsDefine}
use Rattle.smpe_jobs.specs.declared.error.JobError.{JobError}
use Rattle.smpe_jobs.specs.declared.error.JobError.TheVariants.{Memory, Store, Write}
use Rattle.smpe_jobs.specs.Ending.{IsAfterNext, EndsLast, StaysClosed, EndsEarly, EndsJob, EndsJobs}
use Rattle.smpe_jobs.specs.FromEmpty.{IsNewStore, EndsClosed, empty_system}

-- tables of one database, whatever schema it is read by, stand for one inventory
same_stands : (trees : Trees) (a b : Schema) (i j : Inventory) → StandsFor i (record { schema = a; trees = trees })
    → StandsFor j (record { schema = b; trees = trees }) → i ≡ j
same_stands trees a b i j of_i of_j =
    let same : a ≡ b = of_i.tables.schema_is ∙ sym of_j.tables.schema_is in
    one_state (record { schema = b; trees = trees }) i j
    (inr (subst (λ s. StandsFor i (record { schema = s; trees = trees })) same of_i)) (inr of_j)

module _ {S : Type 0} (g : Ghosts S) (at : Held S) (clean : HasCleanDisk (state g at)) where
  abbrev HasClosedZones : Inventory → Type 0
  HasClosedZones i = AreClosed i.global i.zones

  -- The tables stand for a state whose zones are closed, and a crash leaves that or such another one.
  stays : (t : State) → (IsTrue (state g at).is_open → StandsFor (kept t) (state g at).committed)
      → HasClosedZones (kept t) → Leaves g at HasClosedZones → StaysClosed g at
  stays t now closed crash = record {
    now = λ i open_now stands. subst HasClosedZones
        (sym (one_state (state g at).committed i (kept t) (inr stands) (inr (now open_now)))) closed;
    crash = λ db left schema i stands.
        let it = crash db (clean, left) in
        subst HasClosedZones (same_stands db store_schema schema it.0 i it.2 stands) it.1;
  }

  pub keeps_closed : (t : State) → Keeps g at t → AreClosed t.global t.zones → StaysClosed g at
  keeps_closed t keeps closed = stays t (λ open_now. (keeps.now clean).1) closed
      (leaves_more g at (λ c. c ≡ kept t) HasClosedZones (λ c same. subst HasClosedZones (sym same) closed) keeps.crash)

  -- and what the tables stand for has closed zones then
  pub closed_now : (t : State) → Keeps g at t → StaysClosed g at → AreClosed t.global t.zones
  closed_now t keeps closed = let tables = keeps.now clean in closed.now (kept t) tables.0 tables.1

  -- what is kept of a state to which an act leads
  after : (s : State) (a : Act) → HasActForms a → IsClosedState s → (c : Inventory) → IsAfter s a c
      → HasClosedZones c
  after s a form is c (t, outcomes, steps, same) =
      subst HasClosedZones (sym same) (step_keeps s a t outcomes form steps is).closed

  after_next : (s : State) (rest : List Act) → AllByRecursion HasActForms rest → IsClosedState s → (c : Inventory)
      → IsAfterNext s rest c → HasClosedZones c
  after_next s [] forms is c none = absurd none
  after_next s (next ∷ rest) forms is c led = after s next forms.0 is c led

  -- a call that failed there
  still : (s : State) (More : Inventory → Type 0) → IsClosedState s → ((c : Inventory) → More c → HasClosedZones c)
      → StillKeeps g at s More → StaysClosed g at
  still s More is each keeps = stays s (λ open_now. ((keeps.now open_now).0 clean).1) is.closed
      (leaves_more g at (λ c. (c ≡ kept s) ⊎ More c) HasClosedZones by keeps.crash)
    where
      by : (c : Inventory) → (c ≡ kept s) ⊎ More c → HasClosedZones c
      by c (inl same) = subst HasClosedZones (sym same) is.closed
      by c (inr more) = each c more

  module _ (began : Held S) where
    last : (new : Option (List ℕ)) (e : JobError) (s : State) (had : Option (List ℕ)) (rest : List Act)
        → AllByRecursion HasActForms rest → IsClosedState s → EndsLast g began at new e s had rest → StaysClosed g at
    last new Memory s had rest forms is (keeps, same) =
        still s (IsAfterNext s rest) is (after_next s rest forms is) keeps
    last new (Store store.Fault) s had [] forms is none = absurd none
    last new (Store store.Fault) s had (next ∷ rest) forms is (failed, same) =
        still s (IsAfter s next) is (after s next forms.0 is) failed.still
    last new (Store store.OtherSchema) s had rest forms is none = absurd none
    last new (Store store.NoState) s had rest forms is none = absurd none
    last new (Store store.Memory) s had rest forms is none = absurd none
    last new Write s had [] forms is none = absurd none
    last new Write s had (next ∷ rest) forms is (t, outcomes, steps, keeps, part) =
        keeps_closed t keeps (step_keeps s next t outcomes forms.0 steps is).closed

    early : (s : State) (acts : List Act) (a b : Option (List ℕ)) (e : JobError) → IsClosedState s
        → AllByRecursion HasActForms acts → EndsEarly g began at s acts a b e → StaysClosed g at
    early s acts a b e is forms course =
        let all = subst (AllByRecursion HasActForms) course.acts_are forms in
        last b e course.before course.had course.rest
        (recursion_back HasActForms course.done course.rest all)
        (runs_keep course.done s course.before course.ran.outcomes
        (recursion_front HasActForms course.done course.rest all) course.ran.runs is) course.last

    job_ended : {V : Type 0} (s : State) (job : Job) (a b : Option (List ℕ)) (answer : V → machine.Answer)
        (r : Result V JobError) → IsClosedState s → HasJobForms job → EndsJob g began at s job a b answer r
        → StaysClosed g at
    job_ended s job a b answer (Ok v) is form (t, bytes, ran, keeps, appends) =
        keeps_closed t keeps (job_keeps s job t bytes (answer v) form ran is).closed
    job_ended s job a b answer (Err e) is form (acts, are, ends) =
        early s acts a b e is (first_formed (job ∷ []) acts (form, tt) are) ends

    jobs_ended : (s : State) (jobs : List Job) (a b : Option (List ℕ)) (r : Result (List machine.Answer) JobError)
        → IsClosedState s → AllByRecursion HasJobForms jobs
        → EndsJobs g began at s jobs a b (λ answers. answers) r → StaysClosed g at
    jobs_ended s jobs a b (Ok answers) is forms (t, bytes, ran, keeps, appends) =
        keeps_closed t keeps (jobs_keep jobs s t bytes answers forms ran is).closed
    jobs_ended s jobs a b (Err e) is forms (acts, are, ends) =
        early s acts a b e is (first_formed jobs acts forms are) ends

    zone_ended : {U : Type 0} (s : State) (d : ZoneDefinition) (r : Result U ZoneError) → IsClosedState s
        → HasActForms (Define d) → EndsDefine g began at s d r → StaysClosed g at
    zone_ended s d (Ok done) is form (t, answers, keeps) =
        keeps_closed t keeps (step_keeps s (Define d) t [] form (steps_defined s t d answers) is).closed
    zone_ended s d (Err (zone.Refused why)) is form ended = keeps_closed s ended.1 is.closed
    zone_ended s d (Err (zone.Store store.Fault)) is form ended =
        still s (IsAfter s (Define d)) is (after s (Define d) form is) ended.still
    zone_ended s d (Err (zone.Store store.OtherSchema)) is form ended = absurd ended
    zone_ended s d (Err (zone.Store store.NoState)) is form ended = absurd ended
    zone_ended s d (Err (zone.Store store.Memory)) is form ended = absurd ended
    zone_ended s d (Err zone.Memory) is form ended =
        still s (IsAfter s (Define d)) is (after s (Define d) form is) ended

module _ {S : Type 0} (g : Ghosts S) (old at : Held S) (s : State) (was : HasCleanDisk (state g old))
    (clean : HasCleanDisk (state g at)) (keeps : Keeps g old s) (closed : AreClosed s.global s.zones) where
  found : IsClosedState s
  found = record { storable = inventory_kept g old s keeps was; closed = closed }

  -- A job whose values have their forms.
  pub job_closed : {V : Type 0} (job : Job) (a b : Option (List ℕ)) (answer : V → machine.Answer)
      (r : Result V JobError) → HasJobForms job → EndsJob g old at s job a b answer r → StaysClosed g at
  job_closed job a b answer r form ends = job_ended g at clean old s job a b answer r found form ends

  -- The definition of such a zone.
  pub definition_closed : {U : Type 0} (d : ZoneDefinition) (r : Result U ZoneError) → IsZoneName d.name
      → IsSrel d.srel → EndsDefine g old at s d r → StaysClosed g at
  definition_closed d r name srel ends = zone_ended g at clean old s d r found (name, srel) ends

-- Jobs over a store that was opened in a database without tables.
pub ends_closed_holds : {S : Type 0} (g : Ghosts S) → EndsClosed g
ends_closed_holds {S} g conn began at jobs old new result made was clean forms ends =
    let found : IsFound g conn (kept empty_system) = λ sure is_open. inl (made.blank sure is_open, refl) in
    let keeps : Keeps g began empty_system = record {
      now = made.tables (kept empty_system) found;
      crash = made.leaves (kept empty_system) found;
    } in
    let is : IsClosedState empty_system = record {
      storable = inventory_kept g began empty_system keeps was;
      closed = search rules;
    } in jobs_ended g at clean began empty_system jobs old new result is forms ends
