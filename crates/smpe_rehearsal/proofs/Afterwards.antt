-- Jobs whose report nobody reads, and the zones that were loaded after them.
use Rattle.std.proofs.Common.{List, None, Result}
use Rattle.sqlite.specs.Store.{Ghosts}
use Rattle.sqlite.specs.Held.{Held, state}
use Rattle.sqlite.specs.State.{HasCleanDisk}
use Rattle.terms.specs.Types.{Text}
use Rattle.machine.specs.State.{State}
use Rattle.machine.specs.Machine as machine
use Rattle.store.specs.Kept.{kept, Keeps}
use Rattle.smpe_jobs.specs.declared.error.JobError.{JobError}
use Rattle.smpe_jobs.specs.Ending.{EndsJobs}
use Rattle.smpe.specs.Going.{GoesJobs}
use Rattle.smpe_jobs.proofs.Early.{jobs_since}
use Rattle.smpe_rehearsal.specs.declared.receiving.Rehearsed.{Rehearsed}
use Rattle.smpe_rehearsal.specs.declared.no_report.NoReport.{NoReport}
use Rattle.smpe_rehearsal.specs.contracts.no_report.NoReportSink.TheImpl.{ghosts as no_report}
use Rattle.smpe_rehearsal.specs.Opened.{IsStoreOver}
use Rattle.smpe_rehearsal.specs.Rehearsed.{LoadsAfter, RehearsedOver}
use Rattle.smpe_rehearsal.proofs.OneJob.{Alike, ends_as, goes_as}

module _ {S : Type 0} (g : Ghosts S) (zone : Text) where
  -- The jobs ended in this way over a store that a connection became, and then the zones were loaded.
  pub rehearsed : {V : Type 0} (f : V → List machine.Answer) (jobs : List machine.Job) (conn begun store : Held S)
      (a b : NoReport) (r : Result V JobError) (q : Result (List machine.Answer) JobError)
      (found : Result Rehearsed JobError) → Alike f (λ all. all) r q → IsStoreOver g conn begun
      → (HasCleanDisk (state g store) → (s : State) → Keeps g begun s
      → EndsJobs g begun store s jobs None None f r)
      → GoesJobs g begun store jobs None None f r → LoadsAfter g zone q store found
      → RehearsedOver g zone jobs conn begun found
  rehearsed f jobs conn begun store a b r q found same over ended went loads = record {
    store = store;
    answers = q;
    ends = λ clean s is. ends_as f (λ all. all) g no_report jobs a b conn store s r q same
        (jobs_since g conn begun store (over.crash.counts, over.crash.limit) s jobs None None f r
        (ended clean s (over.stands (kept s) is)));
    goes = goes_as f (λ all. all) g no_report jobs a b begun store r q same went;
    loads = loads;
  }
