use Rattle.std.proofs.Common.{sym, subst, arith}
use Rattle.sqlite.specs.Held.{state}
use Rattle.sqlite.specs.State.{HasCleanDisk}
use Rattle.store_schema.specs.Known.{HasOwnTables}
use Rattle.store_schema.proofs.Meta.{no_state}
use Rattle.store_schema.proofs.known.recognize_store.Goals as goal

pub returns-clause-none : goal.returns-clause-none
returns-clause-none g c clean is tables =
    let before : HasCleanDisk (state g.S.Store c.refuse_other_numbers.new.conn) =
    omega (arith, clean, c.check_store_tables.ensures.crash.clean) in
    let same = (c.in_ok-refuse_other_numbers.ensures.same before).0.now_is in
    no_state (state g.S.Store c.args.conn.now) (c.in_ok-refuse_other_numbers.ensures.known before) tables
    (λ own. c.check_store_tables.ensures.none clean is (subst HasOwnTables (sym same) own))
