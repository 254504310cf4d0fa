use Rattle.std.proofs.Common.{◌∙◌, Result, Ok, Err, false, ap, sym, refl, subst, rules}
use Rattle.std.proofs.lemmas.Result.{err_from_is_err_and}
use Rattle.terms.specs.Types.{Bypass}
use Rattle.smpe_rehearsal.specs.Copied.{plainly}
use Rattle.smpe_rehearsal.specs.Told.{TellsFound}
use Rattle.smpe_rehearsal.proofs.Copying.{asks_any}
use Rattle.smpe_rehearsal.proofs.copied.ask_about_ids.Goals as goal

pub returns-in_err-zones : goal.returns-in_err-zones
returns-in_err-zones g c =
    let p = err_from_is_err_and c.from_residual.result c.from_residual.ensures.1 in
    asks_any g.S.Store g.O.Sink c.args.zone c.args.ids.now c.args.store.now c.args.out.now c.args.out.now
    c.from_residual.result (search rules) (
      c.load_zones.result,
      c.load_zones.new.store,
      c.load_zones.ensures,
      subst (λ (found : Result _ _). TellsFound g.O.Sink c.args.out.now c.args.out.now (plainly c.args.ids.now) found
          c.from_residual.result) (sym c.in_err-zones.was) (p.1 ∙ ap Err p.2, refl),
    )

pub returns : goal.returns
returns g c =
    asks_any g.S.Store g.O.Sink c.args.zone c.args.ids.now c.args.store.now c.args.out.now c.answer_and_write.new.out
    c.answer_and_write.result (search rules) (
      c.load_zones.result,
      c.load_zones.new.store,
      c.load_zones.ensures,
      subst (λ (found : Result _ _). TellsFound g.O.Sink c.args.out.now c.answer_and_write.new.out
          (plainly c.args.ids.now) found c.answer_and_write.result) (sym c.in_ok-zones.was)
          (subst (λ (bypass : Bypass). TellsFound g.O.Sink c.args.out.now c.answer_and_write.new.out
          (record { ids = c.args.ids.now; together = false; groupextend = false; bypass = bypass })
          (Ok c.in_ok-zones.zones) c.answer_and_write.result) c.none-bypass.ensures c.answer_and_write.ensures),
    )
