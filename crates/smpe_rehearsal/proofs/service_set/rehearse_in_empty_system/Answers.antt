use Rattle.std.proofs.Common.{List, map, inr, subst, refl}
use Rattle.smpe_jobs.specs.Ending.{answer_of}
use Rattle.smpe_rehearsal.specs.ServiceSet.{JobsInMemory, set_jobs}
use Rattle.smpe_rehearsal.proofs.service_set.rehearse_in_empty_system.Goals as goal

pub returns-in-Some : goal.returns-in-Some
returns-in-Some g c = rw c.in-Some.is (inr (
  c.in-Some.commands.date,
  refl,
  inr c.run_in_empty_system.ensures,
))

pub returns-in_ok-cntl-in-None : goal.returns-in_ok-cntl-in-None
returns-in_ok-cntl-in-None g c = rw c.in-None.is (inr (
  c.any_date.result,
  tt,
  inr (subst (λ (cntl : List _). JobsInMemory g.O.Sink (set_jobs c.args.srel c.any_date.result cntl
      (record { ptfin = c.args.files.ptfin.items; holds = c.args.files.hold.items })) c.args.out.now
      (λ v. map answer_of v.items) c.run_in_empty_system-in-None.result c.run_in_empty_system-in-None.new.out)
      c.in_ok-cntl-in-None.ensures c.run_in_empty_system-in-None.ensures),
))
