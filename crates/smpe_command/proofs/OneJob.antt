-- The answer of one job, seen as a list.
use Rattle.std.proofs.Common.{◌≡◌, ◌∙◌, ◌∷◌, [], List, length, get_or, Result, inl, inr, ap, sym, arith}
use Rattle.sqlite.specs.Store.{Ghosts}
use Rattle.terms.specs.Types.{Text}
use Rattle.machine.specs.Machine as machine
use Rattle.report.specs.declared.sink.Sink.{Ghosts as SinkGhosts}
use Rattle.smpe_jobs.specs.declared.error.JobError.{JobError}
use Rattle.smpe_jobs.specs.Errors.{job_error}
use Rattle.smpe_rehearsal.proofs.OneJob.{Alike, ends_as, failed_as, goes_as, write_as}
use Rattle.smpe_command.specs.declared.host.Host.{Ghosts as HostGhosts}
use Rattle.smpe_command.specs.Database.{JobsOver}

-- a list of one item is that item
pub only_one : {X : Type 0} (xs : List X) (x : X) → length xs ≡ 1 → x ≡ get_or xs 0 x → xs ≡ x ∷ []
only_one [] x one is = absurd (omega (arith, one))
only_one (y ∷ []) x one is = ap (λ z. z ∷ []) (sym is)
only_one (y ∷ z ∷ more) x one is = absurd (omega (arith, one))

module _ {V W S O H : Type 0} (f : V → List machine.Answer) (k : W → List machine.Answer) (g : Ghosts S)
    (sink : SinkGhosts O) (jobs : List machine.Job) (out out' : O) where
  -- as the jobs ended with the one result, they ended with the other
  pub over_as : (host : HostGhosts H S) (h after : H) (db : Text) (r : Result V JobError)
      (q : Result W JobError) → Alike f k r q → JobsOver host g sink h db jobs out f r after out'
      → JobsOver host g sink h db jobs out k q after out'
  over_as host h after db r q same (inl (why, fails, is, out_is)) =
      inl (why, fails, failed_as f k g sink jobs out out' r q (job_error why) same is, out_is)
  over_as host h after db r q same (inr (works, sound)) = inr (
    record {
      begun = works.begun;
      opened = works.opened;
      opens = works.opens;
      store = works.store;
      ends = λ clean s found. ends_as f k g sink jobs out out' works.opens.conn works.store s r q same
          (works.ends clean s found);
      closed = works.closed;
      goes = goes_as f k g sink jobs out out' works.begun works.store r q same works.goes;
      closes = works.closes;
    },
    λ none. sound none ∙ write_as f k g sink jobs out out' r q same,
  )
