use Rattle.std.proofs.Common.{rules, arith, sym, subst}
use Rattle.sqlite.specs.Effect.{Database}
use Rattle.sqlite.specs.Held.{state}
use Rattle.sqlite.specs.State.{HasCleanDisk}
use Rattle.store_rows.specs.declared.error.ReadError.TheVariants.{BadRow, Fault}
use Rattle.store_rows.specs.Rows.{HasContents}
use Rattle.store_rows.proofs.InsideLemmas.{on_ok}
use Rattle.store_rows.proofs.Queries.{reads_err, reads_then}
use Rattle.store_schema.specs.Earlier.{schema_under, StandsUnder}
use Rattle.store_migration.proofs.check.check_zones.Goals as goal

pub returns-in_err-heads-clause-reads : goal.returns-in_err-heads-clause-reads
returns-in_err-heads-clause-reads g c =
    reads_err g.S.Store (schema_under c.args.schema) BadRow Fault c.args.conn.now c.zone_heads.new.conn
    c.zone_heads.result c.from_residual.result (search rules) (λ bad. search rules) (λ failed. search rules)
    (c.zone_heads.ensures.reads c.args.schema)

pub returns-clause-reads : goal.returns-clause-reads
returns-clause-reads g c =
    let r = c.args.schema in
    let found = c.in_ok-heads.ensures.reads r in
    let each = c.check_each_zone.ensures (λ clean. (found.same clean).0.is_open) in
    reads_then g.S.Store (schema_under r) BadRow Fault c.args.conn.now c.zone_heads.new.conn c.check_each_zone.new.conn
    c.zone_heads.result c.in_ok-heads.heads c.check_each_zone.result c.in_ok-heads.was (c.zone_heads.ensures.reads r)
    each.reads

pub returns-clause-rows : goal.returns-clause-rows
returns-clause-rows g c clean =
    let s = g.S.Store in
    let r = c.args.schema in
    let found = c.in_ok-heads.ensures.reads r in
    let each = c.check_each_zone.ensures (λ clean. (found.same clean).0.is_open) in
    let early : HasCleanDisk (state s c.zone_heads.new.conn) = omega (arith, clean, each.reads.crash.clean) in
    on_ok c.check_each_zone.result _ _ (λ rows contents held. rows contents
    (subst (λ (db : Database). HasContents (schema_under r) contents db) (sym (found.same early).0.now_is) held)
    (rw c.as_slice.ensures.value (c.in_ok-heads.ensures.rows early r contents held))) (each.rows clean)

pub returns-clause-none : goal.returns-clause-none
returns-clause-none g c clean bad i stands =
    let s = g.S.Store in
    let r = c.args.schema in
    let found = c.in_ok-heads.ensures.reads r in
    let each = c.check_each_zone.ensures (λ clean. (found.same clean).0.is_open) in
    let early : HasCleanDisk (state s c.zone_heads.new.conn) = omega (arith, clean, each.reads.crash.clean) in
    each.none clean bad i (rw c.as_slice.ensures.value (c.in_ok-heads.ensures.found early r i stands))
    (subst (λ (db : Database). StandsUnder r i db) (sym (found.same early).0.now_is) stands)
