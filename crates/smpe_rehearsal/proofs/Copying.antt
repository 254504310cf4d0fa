-- Jobs that ran over a copy of a database, and what was asked after them.
use Rattle.std.proofs.Common.{◌≡◌, ◌≢◌, ◌∙◌, ℕ, List, [], ◌∷◌, Result, Ok, refl}
use Rattle.sqlite.specs.Store.{Ghosts}
use Rattle.sqlite.specs.Held.{Held, state}
use Rattle.sqlite.specs.State.{HasCleanDisk}
use Rattle.terms.specs.Types.{Text}
use Rattle.machine.specs.State.{State}
use Rattle.machine.specs.Machine as machine
use Rattle.report.specs.declared.sink.Sink.{Ghosts as SinkGhosts}
use Rattle.store.specs.Kept.{kept, Keeps}
use Rattle.smpe_jobs.specs.declared.error.JobError.{JobError}
use Rattle.smpe_jobs.specs.Ending.{EndsJobs, TellsOfSink}
use Rattle.smpe.specs.Going.{GoesJobs}
use Rattle.smpe_jobs.proofs.Early.{jobs_since}
use Rattle.smpe_rehearsal.specs.Copied.{AsksAfter, AsksIfAny, AsksStore, TriedOver}
use Rattle.smpe_rehearsal.specs.Opened.{IsStoreOver}
use Rattle.smpe_rehearsal.proofs.OneJob.{Alike, ends_as, goes_as, write_as}

module _ {S O : Type 0} (g : Ghosts S) (sink : SinkGhosts O) (zone : Text) where
  pub asks_none : (ids : List Text) (store : Held S) (out : O) → ids ≡ []
      → AsksIfAny g sink zone ids store out (Ok 0) out
  asks_none [] store out none = (refl, refl)
  asks_none (id ∷ more) store out none = absurd cc

  pub asks_any : (ids : List Text) (store : Held S) (out out' : O) (r : Result ℕ JobError) → ids ≢ []
      → AsksStore g sink zone ids store out r out' → AsksIfAny g sink zone ids store out r out'
  asks_any [] store out out' r some asks = absurd (some refl)
  asks_any (id ∷ more) store out out' r some asks = asks

  -- The jobs ended in this way over a store that a connection became, and then this was asked.
  pub tried : (ids : List Text) {V : Type 0} (f : V → List machine.Answer) (jobs : List machine.Job)
      (conn begun store : Held S) (out mid out' : O) (r : Result V JobError) (q : Result (List machine.Answer) JobError)
      (status : Result ℕ JobError)
      → Alike f (λ all. all) r q → IsStoreOver g conn begun
      → (HasCleanDisk (state g store) → (s : State) → Keeps g begun s
      → EndsJobs g begun store s jobs (sink.taken out) (sink.taken mid) f r)
      → GoesJobs g begun store jobs (sink.taken out) (sink.taken mid) f r
      → TellsOfSink (sink.has_failed out) (sink.has_failed mid) r
      → AsksAfter g sink zone q ids store mid status out'
      → TriedOver g sink zone ids jobs conn begun out status out'
  tried ids f jobs conn begun store out mid out' r q status same over ended went sound asks = record {
    store = store;
    mid = mid;
    answers = q;
    ends = λ clean s found. ends_as f (λ all. all) g sink jobs out mid conn store s r q same
        (jobs_since g conn begun store (over.crash.counts, over.crash.limit) s jobs (sink.taken out) (sink.taken mid)
        f r (ended clean s (over.stands (kept s) found)));
    goes = goes_as f (λ all. all) g sink jobs out mid begun store r q same went;
    fault = λ none. sound none ∙ write_as f (λ all. all) g sink jobs out mid r q same;
    asks = asks;
  }
