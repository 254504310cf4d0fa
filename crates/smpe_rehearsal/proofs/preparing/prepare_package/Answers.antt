use Rattle.std.proofs.Common.{Err, ap, inl, inr, subst}
use Rattle.smpe_jobs.specs.declared.messages.Fault.TheVariants.{Job}
use Rattle.smpe_rehearsal.specs.Prepared.{PreparesBeside}
use Rattle.smpe_rehearsal.proofs.preparing.prepare_package.Goals as goal

pub returns-in-Ok-clause-prepares : goal.returns-in-Ok-clause-prepares
returns-in-Ok-clause-prepares c = inr (
  c.in-Ok.global,
  rw c.in-Ok.is at c.global_of.ensures,
  subst (λ zone. PreparesBeside c.in-Ok.global.sysmods zone c.args.items.items.items c.args.items.hold_items.items
      c.prepare_beside.result) c.zone_of.ensures c.prepare_beside.ensures.prepares,
)

pub returns-in-Err-clause-prepares : goal.returns-in-Err-clause-prepares
returns-in-Err-clause-prepares c = inl (
  c.in-Err.error,
  rw c.in-Err.is at c.global_of.ensures,
  ap (λ e. Err (Job e)) c.from.ensures,
)
