use Rattle.std.proofs.Common.{◌≡◌, ◌∙◌, inl, inr, subst, ap, Err}
use Rattle.std.proofs.lemmas.Result.{err_from_is_err_and}
use Rattle.store.proofs.Going.{loads_alone}
use Rattle.store.specs.Kept.{kept}
use Rattle.smpe_verify.specs.Verified.{verification}
use Rattle.smpe_command.proofs.Looked.{looked, looked_closed}
use Rattle.smpe_command.proofs.database.verify_database.Goals as goal

pub returns-in_err-store : goal.returns-in_err-store
returns-in_err-store g c =
    let p = err_from_is_err_and c.from_residual.result c.from_residual.ensures.1 in
    inl (c.in_err-store.field-0.0, c.in_err-store.ensures.err, p.1 ∙ ap Err p.2)

pub returns : goal.returns
returns g c =
    let it = c.in_ok-store.ensures.ok in
    let begun = c.in_ok-store.store in
    let at = c.verify-verification.new.store in
    let loads = c.verify-verification.ensures.loads in
    let alone = loads_alone g.H.Disk.Store begun at c.verify-verification.result loads.reads in
    inr (record {
      begun = begun;
      opened = c.open_store.new.host;
      opens = it;
      store = at;
      ends = λ clean s is. looked g.H.Disk.Store begun at s (λ i found. found ≡ verification i)
          (it.over.stands (kept s) is) it.conn
          (it.over.crash.counts, it.over.crash.limit) clean c.verify-verification.result loads;
      closed = λ clean s is closed. looked_closed g.H.Disk.Store begun at c.verify-verification.result alone
          (loads.clean clean)
          clean s (it.over.stands (kept s) is) closed;
      goes = (
        alone,
        loads.none,
        λ clean. c.verify-verification.ensures.stands clean (it.over.ours (loads.clean clean)),
      );
      closes = subst (λ conn. g.H.Host.closes c.open_store.new.host conn c.close-2.new.self) c.close.ensures.same
          c.close-2.ensures.closed;
    })
