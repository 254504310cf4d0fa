use Rattle.std.proofs.Common.{IsErrOf, map, refl, rules, sym}
use Rattle.store_rows.proofs.Queries.{reads_err, reads_more}
use Rattle.terms.proofs.Results.{if_ok_both}
use Rattle.store_rows.specs.declared.error.ReadError.TheVariants.{BadRow}
use Rattle.store_zones.specs.Held.{in_zone}
use Rattle.store_zones.proofs.InZone.{with_zone, without_zone, items_held, rows_held, forms_held, meets_named}
use Rattle.store_zones.proofs.items.load_items.Goals as goal

pub returns-in_err-rows-clause-reads : goal.returns-in_err-rows-clause-reads
returns-in_err-rows-clause-reads g c r known =
    reads_err g.S.Store _ _ _ c.args.conn.now c.load_query.new.conn c.load_query.result _ (search rules)
    (λ bad. search rules) (λ failed. search rules)
    (c.load_query.ensures.reads (sym g.met.T.ZoneItem.by_zone) ((_, refl), tt) r known)

pub returns-in_err-rows-clause-none : goal.returns-in_err-rows-clause-none
returns-in_err-rows-clause-none g c clean bad r known contents was items held =
    let name = c.args.name.now in
    let failed : IsErrOf c.load_query.result BadRow = search rules in
    c.load_query.ensures.none clean failed (sym g.met.T.ZoneItem.by_zone) r known contents was
    (map (with_zone name) items) (forms_held _ _ _ _ _ contents name items held)
    (rows_held _ _ _ _ _ contents name c.as_bytes.result.now c.as_bytes.ensures.same items held)

pub returns-clause-found : goal.returns-clause-found
returns-clause-found g c clean r known contents was =
    let name = c.args.name.now in
    let rows = c.in_ok-rows.rows.items in
    let meets = meets_named g.T.Rows.FromRow.row_of g.met.T.ZoneItem.named in
    if_ok_both c.zone_items.result _ _ _ (λ table same rise.
    items_held _ (in_zone g.T.Rows.FromRow.row_of) _ _ _ meets contents name c.as_bytes.result.now
    c.as_bytes.ensures.same rows table
    (c.in_ok-rows.ensures.found clean (sym g.met.T.ZoneItem.by_zone) r known contents was) c.in_ok-rows.ensures.forms
    same rise) c.zone_items.ensures.same c.zone_items.ensures.rise

pub returns-clause-none : goal.returns-clause-none
returns-clause-none g c clean bad r known contents was items held =
    let name = c.args.name.now in
    let rows = c.in_ok-rows.ensures.only clean (sym g.met.T.ZoneItem.by_zone) r known contents was
    (map (with_zone name) items) (forms_held _ _ _ _ _ contents name items held)
    (rows_held _ _ _ _ _ contents name c.as_bytes.result.now c.as_bytes.ensures.same items held) in
    c.zone_items.ensures.none bad items (without_zone name c.in_ok-rows.rows.items items rows) held.rise

pub returns-clause-reads : goal.returns-clause-reads
returns-clause-reads g c r known =
    reads_more g.S.Store _ _ _ c.args.conn.now c.load_query.new.conn c.load_query.result c.in_ok-rows.rows _
    c.in_ok-rows.was c.zone_items.ensures.fault
    (c.load_query.ensures.reads (sym g.met.T.ZoneItem.by_zone) ((_, refl), tt) r known)
