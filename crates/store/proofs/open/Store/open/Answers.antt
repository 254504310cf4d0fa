use Rattle.std.proofs.Common.{Err, arith, refl, sym, ap, subst}
use Rattle.sqlite.specs.Effect.{Database}
use Rattle.store_schema.specs.Stands.{IsStateOf}
use Rattle.store.proofs.ViewLemmas.{leaves_committed, leaves_found}
use Rattle.store.proofs.open.Store.open.Goals as goal

pub returns-in-Ok-clause-tables : goal.returns-in-Ok-clause-tables
returns-in-Ok-clause-tables g c i found clean =
    let is_open = c.in-Ok.ensures.is_open clean in
    let was_open = c.in-Ok.ensures.was_open clean is_open in
    let settled = c.if-prove.ensures.settled refl was_open in
    let was = found (omega (arith, c.in-Ok.ensures.crash.clean)) was_open in
    (is_open, (c.in-Ok.ensures.stands clean i (subst (λ (db : Database). IsStateOf i db) (sym settled) was)).stands)

pub returns-in-Ok-clause-leaves : goal.returns-in-Ok-clause-leaves
returns-in-Ok-clause-leaves g c i found db left =
    let is_open = c.in-Ok.ensures.is_open left.0 in
    let was_open = c.in-Ok.ensures.was_open left.0 is_open in
    let settled = c.if-prove.ensures.settled refl was_open in
    leaves_committed g.S.Store c.set_up.new.conn (g.met.S.Store.settled c.set_up.new.conn.store) i is_open
    (λ clean. (c.in-Ok.ensures.stands clean i (subst (λ (db : Database). IsStateOf i db) (sym settled)
    (found (omega (arith, c.in-Ok.ensures.crash.clean)) was_open))).stands)
    db left

pub returns-in-Err-clause-none : goal.returns-in-Err-clause-none
returns-in-Err-clause-none g c clean is = c.in-Err.ensures.none clean (ap (λ e. Err e) is)

pub returns-in-Err-clause-leaves_err : goal.returns-in-Err-clause-leaves_err
returns-in-Err-clause-leaves_err g c =
    leaves_found g.S.Store c.args.conn c.set_up.new.conn (g.met.S.Store.settled c.args.conn.store) c.in-Err.ensures.live
    (c.if-prove.ensures.settled refl) c.in-Err.ensures.crash
