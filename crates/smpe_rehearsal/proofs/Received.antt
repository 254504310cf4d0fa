-- What a rehearsal has loaded is what the machine's jobs leave.
use Rattle.std.proofs.Common.{◌≡◌, List, Result, Ok, Err, IfOk, None, ap, refl, subst, sym}
use Rattle.sqlite.specs.Store.{Ghosts}
use Rattle.sqlite.specs.Held.{Held, state}
use Rattle.sqlite.specs.State.{HasCleanDisk}
use Rattle.terms.specs.Types.{Text}
use Rattle.machine.specs.State.{State}
use Rattle.machine.specs.Machine as machine
use Rattle.store_schema.specs.declared.error.StoreError.{StoreError}
use Rattle.store.specs.Kept.{kept}
use Rattle.store.specs.Loads.{Loads}
use Rattle.smpe_jobs.specs.declared.error.JobError.{JobError}
use Rattle.smpe_jobs.specs.Ending.{EndsJobs}
use Rattle.smpe_why.specs.Telling.{IsFoundIn}
use Rattle.smpe_why.specs.declared.found.LoadedZones.{LoadedZones}
use Rattle.smpe_rehearsal.specs.declared.receiving.Rehearsed.{Rehearsed}
use Rattle.smpe_rehearsal.specs.Laws.{IsReceived, LoadsReceived}
use Rattle.smpe_rehearsal.specs.Rehearsed.{LoadsAfter, rehearsed}
use Rattle.smpe_rehearsal.specs.ServiceSet.{greatest}

module _ {S : Type 0} (g : Ghosts S) (name : Text) (jobs : List machine.Job) (conn store : Held S) (s : State)
    (z : Rehearsed) where
  loaded : (answers : List machine.Answer) → EndsJobs g conn store s jobs None None (λ all. all) (Ok answers)
      → (left : Held S) → HasCleanDisk (state g left) → (found : Result LoadedZones StoreError)
      → Loads g store left (IsFoundIn name) found → Ok z ≡ rehearsed (greatest answers) found
      → IsReceived name jobs s z
  loaded answers ended left clean (Ok zones) loads is =
      let same : z ≡ record { zones = zones; status = greatest answers } =
      subst (λ (r : Result Rehearsed JobError). IfOk r (λ y. z ≡ y)) is refl in
      record {
        end = ended.0;
        bytes = ended.1;
        answers = answers;
        runs = ended.2;
        zones = subst (IsFoundIn name (kept ended.0)) (sym (ap (λ (y : Rehearsed). y.zones) same))
            (loads.found clean (kept ended.0) ended.3.now);
        status = ap (λ (y : Rehearsed). y.status) same;
      }
  loaded answers ended left clean (Err why) loads is = absurd cc

  after : (answers : Result (List machine.Answer) JobError) → EndsJobs g conn store s jobs None None (λ all. all) answers
      → LoadsAfter g name answers store (Ok z) → ((at : Held S) → HasCleanDisk (state g at)) → IsReceived name jobs s z
  after (Ok answers) ended loads clean =
      loaded answers ended loads.1 (clean loads.1) loads.0 loads.2 loads.3
  after (Err error) ended loads clean = absurd cc

pub loads_received_holds : {S : Type 0} (g : Ghosts S) → LoadsReceived g
loads_received_holds g = λ name jobs conn begun z r clean s found.
    after g name jobs conn r.store s z r.answers (r.ends (clean r.store) s found) r.loads clean
