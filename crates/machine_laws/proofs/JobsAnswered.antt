-- Jobs have an answer from each state that can be stored: that they have none can be refuted.
use Rattle.std.proofs.Common.{inl, inr, ℕ, List, [], ◌∷◌, ◌++◌, map, refl}
use Rattle.std.specs.List.{AllByRecursion, flat_map}
use Rattle.machine.specs.Outcome.{Outcome, job_code}
use Rattle.machine.specs.Report.{text}
use Rattle.machine.specs.Runs.{Runs}
use Rattle.machine.specs.State.{State, define_zone}
use Rattle.machine.specs.Machine.{Act, Begin, Perform, Faulty, Define, Steps, Job, RunFiles, NewZone, HasActs, Answer}
use Rattle.machine.specs.Machine.{Code, defined, HasAnswer, RunsJob, RunsJobs}
use Rattle.machine_laws.specs.Storable.{IsStorable, HasActForms, HasJobForms}
use Rattle.machine_laws.proofs.StepForms.{step_storable, acts_formed, job_storable}
use Rattle.machine_laws.specs.Answers.{IsAnswered}
use Rattle.machine_laws.proofs.CommandFileRead.{command_file_read}
use Rattle.machine_laws.proofs.StepAnswered.{step_answered}

acts_answered : (acts : List Act) (s : State) → IsStorable s → AllByRecursion HasActForms acts
    → ¬ ¬ IsAnswered (Runs Steps) s acts
acts_answered [] s is forms none = none (s, [], (refl, refl))
acts_answered (a ∷ more) s is forms none =
    step_answered s a is forms.0 (λ first.
    acts_answered more first.0 (step_storable s first.0 a first.1 is forms.0 first.2) forms.1 (λ rest.
    none (rest.0, first.1 ++ rest.1, (first.0, first.1, rest.1, first.2, rest.2, refl))))

-- a job has acts, and after these an answer
acts_some : (job : Job) → ¬ ¬ ((acts : List Act) × HasActs job acts)
acts_some (RunFiles date cntl files) none = command_file_read cntl (λ read. elim read [
  | inl good ↦ none (Begin ∷ map (Perform date files) good.0, inl (good.0, good.1, refl))
  | inr bad ↦ none (
    Begin ∷ Faulty (record { number = bad.0.number; code = bad.0.code }) ∷ [],
    inr (bad.0, bad.1, refl),
  )
])
acts_some (NewZone d) none = none (Define d ∷ [], refl)

answer_some : (s : State) (job : Job) (outcomes : List Outcome) → (answer : Answer) × HasAnswer s job outcomes answer
answer_some s (RunFiles date cntl files) outcomes = (Code (job_code outcomes), refl)
answer_some s (NewZone d) outcomes = (defined (define_zone s d), refl)

pub job_answered : (s : State) (job : Job) → IsStorable s → HasJobForms job
    → ¬ ¬ ((t : State) × (bytes : List ℕ) × (answer : Answer) × RunsJob s job t bytes answer)
job_answered s job is form none =
    acts_some job (λ acts.
    acts_answered acts.0 s is (acts_formed job acts.0 form acts.1) (λ runs.
    let answer = answer_some s job runs.1 in
    none (
      runs.0,
      flat_map text runs.1,
      answer.0,
      record {
        acts = acts.0;
        has_acts = acts.1;
        outcomes = runs.1;
        runs = runs.2;
        bytes_are = refl;
        answers = answer.1;
      },
    )))

pub jobs_answered : (jobs : List Job) (s : State) → IsStorable s → AllByRecursion HasJobForms jobs
    → ¬ ¬ ((t : State) × (bytes : List ℕ) × (answers : List Answer) × RunsJobs s jobs t bytes answers)
jobs_answered [] s is forms none = none (s, [], [], (refl, refl, refl))
jobs_answered (job ∷ more) s is forms none =
    job_answered s job is forms.0 (λ first.
    jobs_answered more first.0 (job_storable s first.0 job first.1 first.2 is forms.0 first.3) forms.1 (λ rest.
    none (
      rest.0,
      first.1 ++ rest.1,
      first.2 ∷ rest.2,
      (first.0, first.1, rest.1, first.2, rest.2, first.3, rest.3, refl, refl),
    )))
