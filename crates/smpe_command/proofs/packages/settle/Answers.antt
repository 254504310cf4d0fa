use Rattle.std.proofs.Common.{◌∙◌, Result, Err, ap, inl, inr, sym, refl, subst}
use Rattle.std.proofs.lemmas.Result.{err_from_is_err_and}
use Rattle.std.specs.Prelude.{count_by, map}
use Rattle.sqlite_disk.specs.contracts.memory.MemoryDisk.TheImpl.{ghosts as memory_disk}
use Rattle.smpe_certificate.specs.Views.{digest_view}
use Rattle.smpe_jobs.specs.declared.messages.Fault.TheVariants.{Job}
use Rattle.smpe_rehearsal.specs.Prepared.{Prepares}
use Rattle.smpe_command.specs.Packages.{Settles, is_hold}
use Rattle.smpe_command.proofs.packages.settle.Goals as goal

pub returns-in_err-ids-clause-settles : goal.returns-in_err-ids-clause-settles
returns-in_err-ids-clause-settles g c =
    let r = c.from_residual in
    let p = err_from_is_err_and r.result r.ensures.1 in
    subst (λ (q : Result _ _). Settles g.H.Host memory_disk c.args.host.now c.args.system.now
    (map digest_view c.args.inputs.items) c.args.carried q c.args.host.now) (sym p.1)
    (inl (p.2 ∙ ap Job c.in_err-ids.ensures.err, refl))

pub returns-in_err-read-clause-settles : goal.returns-in_err-read-clause-settles
returns-in_err-read-clause-settles g c =
    let r = c.from_residual-in_err-read in
    let p = err_from_is_err_and r.result r.ensures.1 in
    subst (λ (q : Result _ _). Settles g.H.Host memory_disk c.args.host.now c.args.system.now
    (map digest_view c.args.inputs.items) c.args.carried q c.read_system.new.host) (sym p.1)
    (inr (inl (c.in_err-read.field-0.0, rw c.in_err-read.was at c.read_system.ensures, p.2)))

pub returns-in_err-inputs-clause-settles : goal.returns-in_err-inputs-clause-settles
returns-in_err-inputs-clause-settles g c =
    let r = c.from_residual-in_err-inputs in
    let p = err_from_is_err_and r.result r.ensures.1 in
    subst (λ (q : Result _ _). Settles g.H.Host memory_disk c.args.host.now c.args.system.now
    (map digest_view c.args.inputs.items) c.args.carried q c.read_system.new.host) (sym p.1)
    (inr (inr (
      c.in_ok-read.read,
      rw c.in_ok-read.was at c.read_system.ensures,
      inl (p.2 ∙ ap Job c.in_err-inputs.ensures.err),
    )))

pub returns-in_err-prepared-clause-settles : goal.returns-in_err-prepared-clause-settles
returns-in_err-prepared-clause-settles g c =
    let r = c.from_residual-in_err-prepared in
    let p = err_from_is_err_and r.result r.ensures.1 in
    let fault = c.in_err-prepared.field-0.0 in
    subst (λ (q : Result _ _). Settles g.H.Host memory_disk c.args.host.now c.args.system.now
    (map digest_view c.args.inputs.items) c.args.carried q c.read_system.new.host) (sym p.1)
    (inr (inr (
      c.in_ok-read.read,
      rw c.in_ok-read.was at c.read_system.ensures,
      inr (subst (λ f. Prepares memory_disk c.in_ok-read.read c.args.carried.items.items
          c.args.carried.hold_items.items (Err f)) (sym p.2)
          (rw c.in_err-prepared.was at c.prepare_package.ensures.prepares)),
    )))

pub returns-clause-settles : goal.returns-clause-settles
returns-clause-settles g c = record {
  reads = rw c.in_ok-read.was at c.read_system.ensures;
  prepared = rw c.in_ok-prepared.was at c.prepare_package.ensures.prepares;
  ids = c.in_ok-ids.ensures.ok;
  unsure = refl;
  remarks = refl;
  status = refl;
  holds_read = c.hold_count-holds_read.ensures ∙ ap (count_by is_hold) c.as_slice.ensures.value;
  inputs_are = c.in_ok-inputs.ensures.ok;
}
