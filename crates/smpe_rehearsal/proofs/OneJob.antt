-- The answers of jobs, seen in two ways.
use Rattle.std.proofs.Common.{◌≡◌, ◌∙◌, [], ℕ, List, Option, Result, Ok, Err, inl, inr}
use Rattle.std.proofs.Common.{ap, subst, sym, refl}
use Rattle.std.specs.Prelude.{IfErr}
use Rattle.sqlite.specs.Store.{Ghosts}
use Rattle.sqlite.specs.Held.{Held}
use Rattle.terms.specs.Types.{Text}
use Rattle.machine.specs.State.{State}
use Rattle.machine.specs.Machine as machine
use Rattle.machine.specs.Machine.{Files, RunsJobs}
use Rattle.report.specs.declared.sink.Sink.{Ghosts as SinkGhosts}
use Rattle.smpe_jobs.specs.declared.error.JobError.{JobError}
use Rattle.smpe_jobs.specs.declared.error.JobError.TheVariants.{Memory}
use Rattle.smpe_invocation.specs.declared.asked.CommandJob.{CommandJob}
use Rattle.sqlite.specs.Steps.{over_memory}
use Rattle.smpe_jobs.specs.Errors.{job_error}
use Rattle.smpe_jobs.specs.Ending.{EndsJobs, is_write}
use Rattle.smpe_jobs.specs.FromEmpty.{empty_system}
use Rattle.smpe.specs.Going.{GoesJobs, JobsRan}
use Rattle.smpe_rehearsal.specs.ServiceSet.{JobsInMemory, TriesSet, TriesWith, apply_records, set_jobs, tried_with}

module _ {V W : Type 0} (f : V → List machine.Answer) (k : W → List machine.Answer) where
  -- The two results are one error, or have the same answers.
  abbrev pub Alike : Result V JobError → Result W JobError → Type 0
  Alike (Ok v) (Ok w) = f v ≡ k w
  Alike (Ok v) (Err d) = ⊥
  Alike (Err e) (Ok w) = ⊥
  Alike (Err e) (Err d) = e ≡ d

  pub alike_ok : (r : Result V JobError) (q : Result W JobError) (v : V) (w : W) → r ≡ Ok v → q ≡ Ok w → f v ≡ k w
      → Alike r q
  alike_ok r q v w is_r is_q same = subst (λ r. Alike r q) (sym is_r) (subst (Alike (Ok v)) (sym is_q) same)

  pub alike_err : (r : Result V JobError) (q : Result W JobError) (e d : JobError) → r ≡ Err e → q ≡ Err d → e ≡ d
      → Alike r q
  alike_err r q e d is_r is_q same = subst (λ r. Alike r q) (sym is_r) (subst (Alike (Err e)) (sym is_q) same)

  module _ {S O : Type 0} (g : Ghosts S) (sink : SinkGhosts O) (jobs : List machine.Job) (out out' : O) where
    -- as the jobs ended with the one result, they ended with the other
    pub ends_as : (a b : Held S) (s : State) (r : Result V JobError) (q : Result W JobError) → Alike r q
        → EndsJobs g a b s jobs (sink.taken out) (sink.taken out') f r
        → EndsJobs g a b s jobs (sink.taken out) (sink.taken out') k q
    ends_as a b s (Ok v) (Ok w) same ended =
        (ended.0, ended.1, subst (λ answers. RunsJobs s jobs ended.0 ended.1 answers) same ended.2, ended.3, ended.4)
    ends_as a b s (Ok v) (Err d) same ended = absurd same
    ends_as a b s (Err e) (Ok w) same ended = absurd same
    ends_as a b s (Err e) (Err d) same ended =
        subst (λ x. EndsJobs g a b s jobs (sink.taken out) (sink.taken out') k (Err x)) same ended

    pub goes_as : (a b : Held S) (r : Result V JobError) (q : Result W JobError) → Alike r q
        → GoesJobs g a b jobs (sink.taken out) (sink.taken out') f r
        → GoesJobs g a b jobs (sink.taken out) (sink.taken out') k q
    goes_as a b (Ok v) (Ok w) same went =
        subst (JobsRan g a jobs b (sink.taken out) (sink.taken out')) same went
    goes_as a b (Ok v) (Err d) same went = absurd same
    goes_as a b (Err e) (Ok w) same went = absurd same
    goes_as a b (Err e) (Err d) same went =
        subst (λ x. GoesJobs g a b jobs (sink.taken out) (sink.taken out') k (Err x)) same went

    pub write_as : (r : Result V JobError) (q : Result W JobError) → Alike r q → is_write r ≡ is_write q
    write_as (Ok v) (Ok w) same = refl
    write_as (Ok v) (Err d) same = absurd same
    write_as (Err e) (Ok w) same = absurd same
    write_as (Err e) (Err d) same = ap (λ x. is_write {X = V} (Err x)) same

    pub failed_as : (r : Result V JobError) (q : Result W JobError) (e : JobError) → Alike r q → r ≡ Err e → q ≡ Err e
    failed_as (Ok v) q e same is = absurd cc
    failed_as (Err d) (Ok w) e same is = absurd same
    failed_as (Err d) (Err c) e same is =
        let first : e ≡ d = subst (λ (r : Result V JobError). IfErr r (λ x. x ≡ d)) is refl in
        ap (λ x. Err x) (sym same ∙ sym first)

  module _ {O : Type 0} (sink : SinkGhosts O) (out out' : O) (r : Result V JobError) (q : Result W JobError)
      (same : Alike r q) where
    short_as : (r ≡ Err Memory) × (out' ≡ out) → (q ≡ Err Memory) × (out' ≡ out)
    short_as (is, out_is) = (failed_as over_memory sink [] out out' r q Memory same is, out_is)

    pub memory_as : (jobs : List machine.Job) → JobsInMemory sink jobs out f r out' → JobsInMemory sink jobs out k q out'
    memory_as jobs (inl short) = inl (short_as short)
    memory_as jobs (inr (conn, new, empty, inl (why, unmade, is, out_is))) = inr (
      conn,
      new,
      empty,
      inl (why, unmade, failed_as over_memory sink jobs out out' r q (job_error why) same is, out_is),
    )
    memory_as jobs (inr (conn, new, empty, inr (store, ended, fault))) = inr (
      conn,
      new,
      empty,
      inr (
        store,
        ends_as over_memory sink jobs out out' conn store empty_system r q same ended,
        λ none. fault none ∙ write_as over_memory sink jobs out out' r q same,
      ),
    )

    with_as : (srel date : Text) (cntl : List ℕ) (files : Files) → TriesWith sink out srel date cntl files f r out'
        → TriesWith sink out srel date cntl files k q out'
    with_as srel date cntl files (inl short) = inl (short_as short)
    with_as srel date cntl files (inr ran) = inr (memory_as (set_jobs srel date cntl files) ran)

    -- as a service set was tried with the one result, it was tried with the other
    pub tries_as : (srel : Text) (commands : Option CommandJob) (cntl : List ℕ) (files : Files)
        → TriesSet sink out srel commands cntl files f r out' → TriesSet sink out srel commands cntl files k q out'
    tries_as srel commands cntl files (inl short) = inl (short_as short)
    tries_as srel commands cntl files (inr (date, on, tried)) =
        inr (date, on, with_as srel date (tried_with apply_records commands cntl) files tried)
