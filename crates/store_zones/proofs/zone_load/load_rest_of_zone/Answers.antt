use Rattle.std.proofs.Common.{Some, rules, sym, subst, arith}
use Rattle.sqlite.specs.Held.{state}
use Rattle.sqlite.specs.State.{HasCleanDisk}
use Rattle.terms.proofs.Results.{if_ok_both}
use Rattle.store_rows.proofs.Queries.{reads_err, reads_more, reads_then}
use Rattle.store_rows.specs.Rows.{HasContents}
use Rattle.store_schema.specs.Earlier.{schema_under}
use Rattle.terms.specs.Lookups.{element_cmp}
use Rattle.terms.specs.Types.{Zone}
use Rattle.terms.proofs.ElementOrder.{cmp_keys}
use Rattle.store_zones.specs.Held.{HoldsUnder}
use Rattle.store_zones.proofs.InZone.{held_alike}
use Rattle.store_zones.proofs.Zones.{is_held, may_stand, its_numbered, its_elements}
use Rattle.store_zones.proofs.zone_load.load_rest_of_zone.Goals as goal

pub returns-in_err-entries-clause-no_rows : goal.returns-in_err-entries-clause-no_rows
returns-in_err-entries-clause-no_rows g c clean bad contents was head zone held =
    c.load_entries.ensures.no_rows clean (search rules) contents was zone.entries
    (its_numbered contents c.args.head.name c.args.schema zone held)

pub returns-in_err-elements-clause-no_rows : goal.returns-in_err-elements-clause-no_rows
returns-in_err-elements-clause-no_rows g c clean bad contents was head zone held =
    let r = c.args.schema in
    let before : HasCleanDisk (state g.S.Store c.load_entries.new.conn) =
    omega (arith, clean, (c.load_items.ensures.reads r tt).crash.clean) in
    let same = c.in_ok-entries.ensures.reads.same before in
    let later = subst (HasContents (schema_under r) contents) (sym same.0.now_is) was in
    let name = c.args.head.name in
    c.load_items.ensures.none clean (search rules) r tt contents later zone.elements
    (held_alike _ element_cmp cmp_keys contents name zone.elements (its_elements contents name zone held.1))

pub returns-clause-rows : goal.returns-clause-rows
returns-clause-rows g c clean contents was head =
    let r = c.args.schema in
    let before : HasCleanDisk (state g.S.Store c.load_entries.new.conn) =
    omega (arith, clean, (c.load_items.ensures.reads r tt).crash.clean) in
    let same = c.in_ok-entries.ensures.reads.same before in
    let later = subst (HasContents (schema_under r) contents) (sym same.0.now_is) was in
    let entries = c.in_ok-entries.ensures.rows before contents was in
    let elements = held_alike element_cmp _ (λ a b. sym (cmp_keys a b)) contents c.args.head.name
    c.in_ok-elements.elements (c.in_ok-elements.ensures.found clean r tt contents later) in
    if_ok_both c.assemble_zone.result _ _ _ (λ zone is may.
    subst (λ (z : Zone). HoldsUnder r contents c.args.head.name (Some z)) (sym is)
    (is_held r contents c.args.head c.in_ok-entries.entries c.in_ok-elements.elements head entries elements may))
    c.assemble_zone.ensures.same c.assemble_zone.ensures.may_be

pub returns-clause-no_rows : goal.returns-clause-no_rows
returns-clause-no_rows g c clean bad contents was head zone held =
    let r = c.args.schema in
    let before : HasCleanDisk (state g.S.Store c.load_entries.new.conn) =
    omega (arith, clean, (c.load_items.ensures.reads r tt).crash.clean) in
    let entries = c.in_ok-entries.ensures.rows before contents was in
    c.assemble_zone.ensures.none bad (may_stand r contents c.args.head c.in_ok-entries.entries c.in_ok-elements.elements
    head
    entries zone held)

pub returns-in_err-entries-clause-reads : goal.returns-in_err-entries-clause-reads
returns-in_err-entries-clause-reads g c =
    reads_err g.S.Store _ _ _ c.args.conn.now c.load_entries.new.conn c.load_entries.result _ (search rules)
    (λ bad. search rules) (λ failed. search rules) c.load_entries.ensures.reads

pub returns-in_err-elements-clause-reads : goal.returns-in_err-elements-clause-reads
returns-in_err-elements-clause-reads g c =
    reads_then g.S.Store _ _ _ c.args.conn.now c.load_entries.new.conn c.load_items.new.conn
    c.load_entries.result c.in_ok-entries.entries _ c.in_ok-entries.was c.load_entries.ensures.reads
    (reads_err g.S.Store _ _ _ c.load_entries.new.conn c.load_items.new.conn c.load_items.result _ (search rules)
    (λ bad. search rules) (λ failed. search rules) (c.load_items.ensures.reads c.args.schema tt))

pub returns-clause-reads : goal.returns-clause-reads
returns-clause-reads g c =
    reads_then g.S.Store _ _ _ c.args.conn.now c.load_entries.new.conn c.load_items.new.conn
    c.load_entries.result c.in_ok-entries.entries _ c.in_ok-entries.was c.load_entries.ensures.reads
    (reads_more g.S.Store _ _ _ c.load_entries.new.conn c.load_items.new.conn c.load_items.result
    c.in_ok-elements.elements _ c.in_ok-elements.was c.assemble_zone.ensures.fault
    (c.load_items.ensures.reads c.args.schema tt))
