use Rattle.std.proofs.Common.{rules, sym, subst}
use Rattle.sqlite.specs.Held.{state}
use Rattle.terms.specs.Types.{a_global}
use Rattle.terms.specs.Global.{IsGlobal}
use Rattle.store_schema.proofs.UnderEach.{stands_inventory}
use Rattle.store_migration.proofs.check.check_global.Goals as goal

pub returns-in_err-assemble_global-clause-none : goal.returns-in_err-assemble_global-clause-none
returns-in_err-assemble_global-clause-none g c clean bad i stands =
    c.assemble_global.ensures.none (search rules) (subst IsGlobal (sym (c.in_ok-lists.ensures.found clean i stands))
    (stands_inventory c.args.schema i (state g.S.Store c.args.conn.now).now stands).global)

pub returns-clause-rows : goal.returns-clause-rows
returns-clause-rows g c clean contents held = (
  a_global c.in_ok-lists.lists.sysmods.items c.in_ok-lists.lists.holds.items,
  record { lists = c.in_ok-lists.ensures.rows clean contents held; whole = c.in_ok-assemble_global.ensures.whole },
)
