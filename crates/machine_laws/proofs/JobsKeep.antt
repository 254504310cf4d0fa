-- Runs and jobs lead from an inventory whose zones are closed to such a one.
use Rattle.std.proofs.Common.{inl, inr, ℕ, List, [], ◌∷◌, sym, subst}
use Rattle.std.specs.List.{AllByRecursion}
use Rattle.terms.proofs.Each.{recursion_append}
use Rattle.machine.specs.Outcome.{Outcome}
use Rattle.machine.specs.State.{State}
use Rattle.machine.specs.Machine.{Act, Steps, Prints, Job, Answer, RunsJob, RunsJobs, AreFirstActs}
use Rattle.machine.specs.Runs.{Runs}
use Rattle.machine_laws.specs.Storable.{HasActForms, HasJobForms}
use Rattle.machine_laws.proofs.StepForms.{acts_formed}
use Rattle.machine_laws.proofs.StepKeeps.{IsClosedState, step_keeps}

-- ---- forms

pub first_formed : (jobs : List Job) (acts : List Act) → AllByRecursion HasJobForms jobs → AreFirstActs jobs acts
    → AllByRecursion HasActForms acts
first_formed [] acts each are = subst (AllByRecursion HasActForms) (sym are) tt
first_formed (job ∷ more) acts each (inl none) = subst (AllByRecursion HasActForms) (sym none) tt
first_formed (job ∷ more) acts each (inr (front, back, has, rest, are)) =
    subst (AllByRecursion HasActForms) (sym are)
    (recursion_append HasActForms front back (acts_formed job front each.0 has) (first_formed more back each.1 rest))

-- ---- runs

pub runs_keep : (acts : List Act) (s t : State) (outcomes : List Outcome) → AllByRecursion HasActForms acts
    → Runs Steps s acts t outcomes → IsClosedState s → IsClosedState t
runs_keep [] s t outcomes forms (same, none) is = subst IsClosedState (sym same) is
runs_keep (a ∷ acts) s t outcomes forms (m, front, back, steps, runs, are) is =
    runs_keep acts m t back forms.1 runs (step_keeps s a m front forms.0 steps is)

-- the same of acts with the text that they print
pub printed_keeps : (s : State) (a : Act) (t : State) (bytes : List ℕ) → HasActForms a → Prints s a t bytes
    → IsClosedState s → IsClosedState t
printed_keeps s a t bytes form (outcomes, steps, are) is = step_keeps s a t outcomes form steps is

pub prints_keep : (acts : List Act) (s t : State) (bytes : List ℕ) → AllByRecursion HasActForms acts
    → Runs Prints s acts t bytes → IsClosedState s → IsClosedState t
prints_keep [] s t bytes forms (same, none) is = subst IsClosedState (sym same) is
prints_keep (a ∷ acts) s t bytes forms (m, front, back, prints, runs, are) is =
    prints_keep acts m t back forms.1 runs (printed_keeps s a m front forms.0 prints is)

-- A job, and jobs one after the other.
pub job_keeps : (s : State) (job : Job) (t : State) (bytes : List ℕ) (answer : Answer) → HasJobForms job
    → RunsJob s job t bytes answer → IsClosedState s → IsClosedState t
job_keeps s job t bytes answer form ran is =
    runs_keep ran.acts s t ran.outcomes (acts_formed job ran.acts form ran.has_acts) ran.runs is

pub jobs_keep : (jobs : List Job) (s t : State) (bytes : List ℕ) (answers : List Answer)
    → AllByRecursion HasJobForms jobs → RunsJobs s jobs t bytes answers → IsClosedState s → IsClosedState t
jobs_keep [] s t bytes answers forms (same, none, no_answers) is = subst IsClosedState (sym same) is
jobs_keep (job ∷ more) s t bytes answers forms (m, front, back, answer, later, ran, rest, are, answers_are) is =
    jobs_keep more m t back later forms.1 rest (job_keeps s job m front answer forms.0 ran is)
