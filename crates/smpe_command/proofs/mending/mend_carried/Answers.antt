use Rattle.std.proofs.Common.{◌∙◌, List, Ok, Err, map, ap, inl, inr, refl, subst}
use Rattle.std.proofs.lemmas.Result.{err_from_is_err_and}
use Rattle.sqlite_disk.specs.contracts.memory.MemoryDisk.TheImpl.{ghosts as memory_disk}
use Rattle.smpe_certificate.specs.Views.{digest_view}
use Rattle.smpe_command.specs.Packages.{Settles}
use Rattle.smpe_command.proofs.mending.mend_carried.Goals as goal

pub returns-in_err-settled : goal.returns-in_err-settled
returns-in_err-settled g c =
    let p = err_from_is_err_and c.from_residual.result c.from_residual.ensures.1 in
    inl (
      c.in_err-settled.field-0.0,
      subst (λ (inputs : List _). Settles g.H.Host memory_disk c.args.host.now c.args.system.now
          (map digest_view inputs) c.args.carried (Err c.in_err-settled.field-0.0) c.settle.new.host) c.new.ensures.items
          (rw c.in_err-settled.was at c.settle.ensures.settles),
      p.1 ∙ ap Err p.2,
      refl,
    )

pub returns : goal.returns
returns g c = inr (
  c.in_ok-settled.settled,
  subst (λ (inputs : List _). Settles g.H.Host memory_disk c.args.host.now c.args.system.now (map digest_view inputs)
      c.args.carried (Ok c.in_ok-settled.settled) c.settle.new.host) c.new.ensures.items
      (rw c.in_ok-settled.was at c.settle.ensures.settles),
  c.mend_settled.result,
  c.mend_settled.ensures,
  c.status_or_fault.ensures,
)
