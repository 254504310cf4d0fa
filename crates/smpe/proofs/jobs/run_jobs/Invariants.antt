use Rattle.std.proofs.Common.{◌≡◌, ◌≤◌, false, map, take, length, Ok}
use Rattle.std.specs.Vec.{vec_capacity}
use Rattle.sqlite.specs.Held.{state}
use Rattle.sqlite.specs.State.{HasCleanDisk}
use Rattle.machine.specs.State.{State}
use Rattle.store.specs.Kept.{Keeps}
use Rattle.store.specs.CallEnds.{Follows}
use Rattle.smpe_jobs.specs.Ending.{EndsJobs, KeepsClosed, job_of, answer_of}
use Rattle.smpe.specs.Going.{JobsRan}
use Rattle.smpe.proofs.jobs.run_jobs.Given as goal

abbrev pub invariant-loop-job : goal.invariant-loop-job
invariant-loop-job g l = record {
  follows : Follows g.S.Store l.fn.store l.store;
  ran : HasCleanDisk (state g.S.Store l.store) → (s : State) → Keeps g.S.Store l.fn.store s →
      EndsJobs g.S.Store l.fn.store l.store s (map job_of (take l.job-index l.jobs)) (g.W.Sink.taken l.fn.w)
      (g.W.Sink.taken l.w)
      (λ told. told) (Ok (map answer_of l.answers.items));
  goes : JobsRan g.S.Store l.fn.store (map job_of (take l.job-index l.jobs)) l.store (g.W.Sink.taken l.fn.w)
      (g.W.Sink.taken l.w) (map answer_of l.answers.items);
  closed : KeepsClosed g.S.Store l.fn.store l.store;
  count : length l.answers.items ≡ l.job-index;
  room : length l.jobs ≤ vec_capacity l.answers;
  sound : g.W.Sink.has_failed l.fn.w ≡ false → g.W.Sink.has_failed l.w ≡ false;
}
