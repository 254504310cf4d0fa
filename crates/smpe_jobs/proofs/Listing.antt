-- Jobs one after another.
use Rattle.std.proofs.Common.{◌≡◌, ℕ, List, [], ◌∷◌, ◌++◌, Option, Result, Ok, Err, refl, sym, ◌∙◌, ap, subst}
use Rattle.std.proofs.Common.{append_assoc, append-nil, inl, inr}
use Rattle.std.specs.Io.KnownBytes.{Appends}
use Rattle.std.specs.List.{flat_map}
use Rattle.std.specs.Result.{IsErrAnd}
use Rattle.std.proofs.KnownBytes.{Appends-nil, Appends-trans}
use Rattle.std.proofs.lemmas.List.Concat.{flat_map-append}
use Rattle.std.proofs.lemmas.Result.{err_from_is_err_and}
use Rattle.sqlite.specs.Store.{Ghosts}
use Rattle.sqlite.specs.Held.{Held}
use Rattle.machine.specs.State.{State}
use Rattle.machine.specs.Outcome.{Outcome}
use Rattle.machine.specs.Report.{text}
use Rattle.machine.specs.Machine.{Act, Steps, Job, Answer, AreFirstActs, RunsJob, RunsJobs}
use Rattle.machine.specs.Runs.{Runs}
use Rattle.machine.proofs.Joined.{runs_append}
use Rattle.store.specs.Causes.{IsLater}
use Rattle.store.specs.Kept.{Keeps}
use Rattle.smpe_jobs.specs.declared.error.JobError.{JobError}
use Rattle.smpe_jobs.specs.Course.{AllRan}
use Rattle.smpe_jobs.specs.Ending.{EndsAmong, EndsJob, EndsJobs}
use Rattle.smpe_jobs.proofs.Early.{early_after}

-- one job more
pub runs_more : (s t u : State) (jobs : List Job) (job : Job) (front back : List ℕ) (answers : List Answer)
    (answer : Answer)
    → RunsJobs s jobs t front answers → RunsJob t job u back answer
    → RunsJobs s (jobs ++ job ∷ []) u (front ++ back) (answers ++ answer ∷ [])
runs_more s t u [] job front back answers answer (at, none, no_answers) run = (
  u,
  back,
  [],
  answer,
  [],
  subst (λ v. RunsJob v job u back answer) at run,
  (refl, refl, refl),
  ap (λ bytes. bytes ++ back) none ∙ sym (append-nil back),
  ap (λ before. before ++ answer ∷ []) no_answers,
)
runs_more s t u (first ∷ jobs) job front back answers answer (m, bytes, more, told, later, ran, rest, is, are) run = (
  m,
  bytes,
  more ++ back,
  told,
  later ++ answer ∷ [],
  ran,
  runs_more m t u jobs job more back later answer rest run,
  ap (λ before. before ++ back) is ∙ append_assoc bytes more back,
  ap (λ before. before ++ answer ∷ []) are,
)

-- acts of first jobs are so where more jobs follow
pub first_more : (jobs more : List Job) (acts : List Act) → AreFirstActs jobs acts → AreFirstActs (jobs ++ more) acts
first_more [] [] acts is = is
first_more [] (job ∷ more) acts is = inl is
first_more (job ∷ jobs) more acts (inl is) = inl is
first_more (job ∷ jobs) more acts (inr (front, back, has, rest, is)) =
    inr (front, back, has, first_more jobs more back rest, is)

-- jobs that ran, as acts, with first acts of others behind
pub acts_of_jobs : (s t : State) (jobs more : List Job) (bytes : List ℕ) (answers : List Answer) (back : List Act)
    → RunsJobs s jobs t bytes answers → AreFirstActs more back
    → (acts : List Act) × (outcomes : List Outcome) × Runs Steps s acts t outcomes
    × (bytes ≡ flat_map text outcomes) × AreFirstActs (jobs ++ more) (acts ++ back)
acts_of_jobs s t [] more bytes answers back (at, none, no_answers) first = ([], [], (at, refl), none, first)
acts_of_jobs s t (job ∷ jobs) more bytes answers back (m, front, later, answer, others, ran, rest, is, are) first =
    let behind = acts_of_jobs m t jobs more later others back rest first in (
      ran.acts ++ behind.0,
      ran.outcomes ++ behind.1,
      runs_append Steps s m t ran.acts behind.0 ran.outcomes behind.1 ran.runs behind.2,
      is ∙ ap (λ b. b ++ later) ran.bytes_are ∙ ap (λ b. flat_map text ran.outcomes ++ b) behind.3
          ∙ sym (flat_map-append text ran.outcomes behind.1),
      inr (ran.acts, behind.0 ++ back, ran.has_acts, behind.4, append_assoc ran.acts behind.0 back),
    )

module _ {S : Type 0} (g : Ghosts S) (s : State) (began : Held S) where
  pub jobs_none : (at : Held S) (taken : Option (List ℕ)) → Keeps g at s
      → EndsJobs g began at s [] taken taken (λ answers. answers) (Ok [])
  jobs_none at taken keeps = (s, [], (refl, refl, refl), keeps, Appends-nil taken)

  -- the exit of a `?`
  pub jobs_err : {V : Type 0} (at : Held S) (jobs : List Job) (a b : Option (List ℕ)) (answers : V → List Answer)
      (r : Result V JobError) (e : JobError)
      → IsErrAnd r (λ y. y ≡ e) → EndsAmong g began at s jobs a b e → EndsJobs g began at s jobs a b answers r
  jobs_err at jobs a b answers r e failed ends =
      let p = err_from_is_err_and r failed in
      subst (EndsJobs g began at s jobs a b answers) (sym (p.1 ∙ ap (λ y. Err y) p.2)) ends

  module _ (before at : Held S) (jobs : List Job) (job : Job) (a b c : Option (List ℕ)) (answers : List Answer) where
    -- jobs, and then one more
    pub jobs_more : (answer : Answer) → EndsJobs g began before s jobs a b (λ told. told) (Ok answers)
        → ((t : State) → Keeps g before t → EndsJob g before at t job b c (λ told. told) (Ok answer))
        → EndsJobs g began at s (jobs ++ job ∷ []) a c (λ told. told) (Ok (answers ++ answer ∷ []))
    jobs_more answer (t, front, ran, keeps, appends) goes_on = joined (goes_on t keeps)
      where
        joined : EndsJob g before at t job b c (λ told. told) (Ok answer)
            → EndsJobs g began at s (jobs ++ job ∷ []) a c (λ told. told) (Ok (answers ++ answer ∷ []))
        joined (u, back, run, stands, appends') = (
          u,
          front ++ back,
          runs_more s t u jobs job front back answers answer ran run,
          stands,
          Appends-trans a b c front back appends appends',
        )

    -- jobs, and then one that ended early, with others behind that were never begun
    pub jobs_stop : (more : List Job) (e : JobError) → IsLater g began before
        → EndsJobs g began before s jobs a b (λ told. told) (Ok answers)
        → ((t : State) → Keeps g before t → EndsAmong g before at t (job ∷ []) b c e)
        → EndsAmong g began at s ((jobs ++ job ∷ []) ++ more) a c e
    jobs_stop more e later (t, front, ran, keeps, appends) goes_on = joined (goes_on t keeps)
      where
        joined : EndsAmong g before at t (job ∷ []) b c e → EndsAmong g began at s ((jobs ++ job ∷ []) ++ more) a c e
        joined (back, first, early) =
            let all = acts_of_jobs s t jobs (job ∷ []) front answers back ran first in
            let went : AllRan Steps s all.0 t a b = record {
              outcomes = all.1;
              runs = all.2;
              appends = subst (Appends a b) all.3 appends;
            } in (
              all.0 ++ back,
              first_more (jobs ++ job ∷ []) more (all.0 ++ back) all.4,
              early_after g began before at later s t all.0 back a b c e went early,
            )
