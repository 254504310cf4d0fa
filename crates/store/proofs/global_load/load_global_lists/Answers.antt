use Rattle.std.proofs.Common.{rules, arith, sym, subst}
use Rattle.sqlite.specs.Effect.{Database}
use Rattle.sqlite.specs.Held.{state}
use Rattle.sqlite.specs.State.{HasCleanDisk}
use Rattle.store_rows.specs.Rows.{HasContents}
use Rattle.store_schema.specs.Earlier.{schema_under}
use Rattle.store_rows.proofs.Queries.{reads_err, reads_more, reads_then}
use Rattle.store.proofs.global_load.load_global_lists.Goals as goal

pub returns-in_err-sysmods-clause-reads : goal.returns-in_err-sysmods-clause-reads
returns-in_err-sysmods-clause-reads g c =
    reads_err g.S.Store _ _ _ c.args.conn.now c.load_sysmods.new.conn c.load_sysmods.result _ (search rules)
    (λ bad. search rules) (λ failed. search rules)
    c.load_sysmods.ensures.reads

pub returns-in_err-holds-clause-reads : goal.returns-in_err-holds-clause-reads
returns-in_err-holds-clause-reads g c =
    reads_then g.S.Store _ _ _ c.args.conn.now c.load_sysmods.new.conn c.load_holds.new.conn
    c.load_sysmods.result c.in_ok-sysmods.sysmods _ c.in_ok-sysmods.was c.load_sysmods.ensures.reads
    (reads_err g.S.Store _ _ _ c.load_sysmods.new.conn c.load_holds.new.conn c.load_holds.result _ (search rules)
    (λ bad. search rules) (λ failed. search rules)
    (c.load_holds.ensures.reads c.args.schema))

pub returns-clause-reads : goal.returns-clause-reads
returns-clause-reads g c =
    reads_then g.S.Store _ _ _ c.args.conn.now c.load_sysmods.new.conn c.load_holds.new.conn
    c.load_sysmods.result c.in_ok-sysmods.sysmods _ c.in_ok-sysmods.was c.load_sysmods.ensures.reads
    (reads_more g.S.Store _ _ _ c.load_sysmods.new.conn c.load_holds.new.conn c.load_holds.result c.in_ok-holds.holds _
    c.in_ok-holds.was (λ failed. search rules) (c.load_holds.ensures.reads c.args.schema))

pub returns-clause-rows : goal.returns-clause-rows
returns-clause-rows g c clean contents held =
    let r = c.args.schema in
    let mid = state g.S.Store c.load_sysmods.new.conn in
    let before : HasCleanDisk mid = omega (arith, clean, (c.load_holds.ensures.reads r).crash.clean) in
    let same = c.in_ok-sysmods.ensures.reads.same before in
    record {
      sysmod_rows = c.in_ok-sysmods.ensures.rows before contents held;
      formed = c.in_ok-sysmods.ensures.forms;
      hold_rows = c.in_ok-holds.ensures.rows clean r contents
          (subst (λ (db : Database). HasContents (schema_under r) contents db) (sym same.0.now_is) held);
      hold_forms = c.in_ok-holds.ensures.forms;
    }
