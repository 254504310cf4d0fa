use Rattle.std.proofs.Common.{None, Some, rules, sym, subst, arith}
use Rattle.sqlite.specs.Held.{state}
use Rattle.sqlite.specs.State.{HasCleanDisk}
use Rattle.store_schema.proofs.UnderEach.{rows_under, stands_rows, stands_inventory}
use Rattle.store_zones.specs.Found.{zone_in}
use Rattle.store_zones.specs.Held.{HoldsHead, HoldsUnder}
use Rattle.store_rows.proofs.Queries.{reads_err, reads_more, reads_then}
use Rattle.store_zones.proofs.Zones.{head_at, is_zone, one_under}
use Rattle.store_zones.proofs.Heads.{head_named}
use Rattle.store_zones.proofs.BySchema.{held_after, stands_first}
use Rattle.store_zones.proofs.Standing.{holds_found}
use Rattle.store_zones.proofs.zone_load.load_zone.Goals as goal

pub returns-in_err-head-clause-reads : goal.returns-in_err-head-clause-reads
returns-in_err-head-clause-reads g c =
    reads_err g.S.Store _ _ _ c.args.conn.now c.load_zone_head.new.conn c.load_zone_head.result _ (search rules)
    (λ bad. search rules) (λ failed. search rules)
    (c.load_zone_head.ensures.reads c.args.schema)

pub returns-in_err-load_rest_of_zone-clause-reads : goal.returns-in_err-load_rest_of_zone-clause-reads
returns-in_err-load_rest_of_zone-clause-reads g c =
    reads_then g.S.Store _ _ _ c.args.conn.now c.load_zone_head.new.conn c.load_rest_of_zone.new.conn
    c.load_zone_head.result c.in_ok-head.field-0 _ c.in_ok-head.was (c.load_zone_head.ensures.reads c.args.schema)
    (reads_err g.S.Store _ _ _ c.load_zone_head.new.conn c.load_rest_of_zone.new.conn c.load_rest_of_zone.result _
    (search rules)
    (λ bad. search rules) (λ failed. search rules) c.load_rest_of_zone.ensures.reads)

pub returns-clause-reads : goal.returns-clause-reads
returns-clause-reads g c =
    reads_then g.S.Store _ _ _ c.args.conn.now c.load_zone_head.new.conn c.load_rest_of_zone.new.conn
    c.load_zone_head.result c.in_ok-head.field-0 _ c.in_ok-head.was (c.load_zone_head.ensures.reads c.args.schema)
    (reads_more g.S.Store _ _ _ c.load_zone_head.new.conn c.load_rest_of_zone.new.conn c.load_rest_of_zone.result
    c.in_ok-load_rest_of_zone.field-0 _
    c.in_ok-load_rest_of_zone.was (λ failed. search rules) c.load_rest_of_zone.ensures.reads)

pub returns-in_default-clause-reads : goal.returns-in_default-clause-reads
returns-in_default-clause-reads g c =
    reads_more g.S.Store _ _ _ c.args.conn.now c.load_zone_head.new.conn c.load_zone_head.result c.in_ok-head.field-0 _
    c.in_ok-head.was (λ failed. search rules) (c.load_zone_head.ensures.reads c.args.schema)

pub returns-in_err-head-clause-no_rows : goal.returns-in_err-head-clause-no_rows
returns-in_err-head-clause-no_rows g c clean bad contents was zone held =
    let r = c.args.schema in
    c.load_zone_head.ensures.no_rows clean (search rules) r contents was _
    (head_at contents c.args.name r zone held)

pub returns-in_default-clause-rows : goal.returns-in_default-clause-rows
returns-in_default-clause-rows g c clean contents was =
    (subst (HoldsHead contents c.args.name) c.in_default.is
    (c.in_ok-head.ensures.rows clean c.args.schema contents was)).rows

pub returns-clause-rows : goal.returns-clause-rows
returns-clause-rows g c clean contents was =
    let r = c.args.schema in
    let head = c.in-Some.head in
    let before : HasCleanDisk (state g.S.Store c.load_zone_head.new.conn) =
    omega (arith, clean, c.load_rest_of_zone.ensures.reads.crash.clean) in
    let there = subst (HoldsHead contents c.args.name) c.in-Some.is
    (c.in_ok-head.ensures.rows before r contents was) in
    let named = head_named contents c.args.name head there in
    subst (λ n. HoldsUnder r contents n (Some c.in_ok-load_rest_of_zone.field-0)) named
    (c.in_ok-load_rest_of_zone.ensures.rows clean contents
    (held_after r contents _ _ ((c.in_ok-head.ensures.reads r).same before) was)
    (subst (λ n. HoldsHead contents n (Some head)) (sym named) there))

pub returns-in_err-load_rest_of_zone-clause-no_rows : goal.returns-in_err-load_rest_of_zone-clause-no_rows
returns-in_err-load_rest_of_zone-clause-no_rows g c clean bad contents was zone held =
    let r = c.args.schema in
    let name = c.args.name in
    let before : HasCleanDisk (state g.S.Store c.load_zone_head.new.conn) =
    omega (arith, clean, c.load_rest_of_zone.ensures.reads.crash.clean) in
    let there = subst (HoldsHead contents name) c.in-Some.is (c.in_ok-head.ensures.rows before r contents was) in
    let own = is_zone r contents name c.in-Some.head there zone held in
    c.load_rest_of_zone.ensures.no_rows clean (search rules) contents
    (held_after r contents _ _ ((c.in_ok-head.ensures.reads r).same before) was)
    (subst (λ n. HoldsHead contents n (Some c.in-Some.head)) (sym (head_named contents name c.in-Some.head there))
    there)
    own.0 own.1

-- what the tables hold for an inventory's rows is its zone
pub returns-in_default-clause-found : goal.returns-in_default-clause-found
returns-in_default-clause-found g c clean i stands =
    let r = c.args.schema in
    let name = c.args.name in
    one_under (rows_under r i) name r None (zone_in i name)
    (returns-in_default-clause-rows g c clean (rows_under r i) (stands_rows r i _ stands))
    (holds_found i (stands_inventory r i _ stands) name r (stands_first r i _ stands))

pub returns-clause-found : goal.returns-clause-found
returns-clause-found g c clean i stands =
    let r = c.args.schema in
    let name = c.args.name in
    one_under (rows_under r i) name r (Some c.in_ok-load_rest_of_zone.field-0) (zone_in i name)
    (returns-clause-rows g c clean (rows_under r i) (stands_rows r i _ stands))
    (holds_found i (stands_inventory r i _ stands) name r (stands_first r i _ stands))

pub returns-in_err-head-clause-none : goal.returns-in_err-head-clause-none
returns-in_err-head-clause-none g c clean bad i stands =
    let r = c.args.schema in
    let name = c.args.name in
    returns-in_err-head-clause-no_rows g c clean bad (rows_under r i) (stands_rows r i _ stands) (zone_in i name)
    (holds_found i (stands_inventory r i _ stands) name r (stands_first r i _ stands))

pub returns-in_err-load_rest_of_zone-clause-none : goal.returns-in_err-load_rest_of_zone-clause-none
returns-in_err-load_rest_of_zone-clause-none g c clean bad i stands =
    let r = c.args.schema in
    let name = c.args.name in
    returns-in_err-load_rest_of_zone-clause-no_rows g c clean bad (rows_under r i) (stands_rows r i _ stands)
    (zone_in i name) (holds_found i (stands_inventory r i _ stands) name r (stands_first r i _ stands))
