use Rattle.std.proofs.Common.{sym, subst, arith}
use Rattle.sqlite.specs.Held.{state}
use Rattle.sqlite.specs.State.{HasCleanDisk}
use Rattle.store_schema.specs.Known.{HasTablesUnder}
use Rattle.store_schema.proofs.Meta.{no_schema}
use Rattle.store_schema.proofs.schemas.recognize_schema.Goals as goal

pub returns-clause-none : goal.returns-clause-none
returns-clause-none g c clean is tables =
    let before : HasCleanDisk (state g.S.Store c.refuse_other_numbers.new.conn) =
    omega (arith, clean, c.schema_by_tables.ensures.crash.clean) in
    let same = (c.in_ok-refuse_other_numbers.ensures.same before).0.now_is in
    no_schema (state g.S.Store c.args.conn.now) (c.in_ok-refuse_other_numbers.ensures.known before) tables
    (λ r own. c.schema_by_tables.ensures.none clean is r (subst (HasTablesUnder r) (sym same) own))
