use Rattle.std.proofs.Common.{◌≡◌, map, IsErrOf, refl, rules, subst, sym, ◌∙◌}
use Rattle.std.proofs.lemmas.Cmp.{nat_list_cmp_total}
use Rattle.std.proofs.lemmas.List.Sorted.{IsPermutation-sym, IsPermutation-trans}
use Rattle.store_rows.proofs.Queries.{reads_err, reads_more}
use Rattle.store_rows.specs.declared.error.ReadError.TheVariants.{BadRow}
use Rattle.terms.proofs.Results.{if_ok_both}
use Rattle.store_rows.proofs.InsideLemmas.{if_ok}
use Rattle.store_schema.proofs.UnderEach.{rows_under, stands_rows, stands_inventory}
use Rattle.store_schema.proofs.WrittenLists.{rising_same}
use Rattle.store_zones.specs.declared.head.ZoneHead.{ZoneHead}
use Rattle.store_zones.specs.Found.{head_of}
use Rattle.store_zones.specs.Related.{AreRelated}
use Rattle.store_zones.proofs.Heads.{one_list, heads_stand, heads_read}
use Rattle.store_zones.proofs.head.zone_heads.Goals as goal

pub returns-in_err-heads-clause-no_rows : goal.returns-in_err-heads-clause-no_rows
returns-in_err-heads-clause-no_rows g c clean bad r contents was heads held =
    let failed : IsErrOf c.load_query.result BadRow = search rules in
    c.load_query.ensures.none clean failed refl r tt contents was heads held.forms held.rows

pub returns-in_err-sorted-clause-no_rows : goal.returns-in_err-sorted-clause-no_rows
returns-in_err-sorted-clause-no_rows g c clean bad r contents was heads held =
    let failed : IsErrOf c.into_table.result BadRow = search rules in
    let rows = c.in_ok-heads.ensures.only clean refl r tt contents was heads held.forms held.rows in
    c.into_table.ensures.none failed heads rows held.rise

pub returns-clause-rows : goal.returns-clause-rows
returns-clause-rows g c clean r contents was =
    let table = c.in_ok-sorted.sorted in
    if_ok_both c.require_related.result _ _ _ (λ heads same related.
    heads_read contents c.in_ok-heads.heads.items table heads.items (same ∙ c.into_vec.ensures.items)
    (c.in_ok-heads.ensures.found clean refl r tt contents was) c.in_ok-heads.ensures.forms c.in_ok-sorted.ensures.same
    c.in_ok-sorted.ensures.rise related) c.require_related.ensures.same c.require_related.ensures.related

pub returns-clause-no_rows : goal.returns-clause-no_rows
returns-clause-no_rows g c clean bad r contents was heads held =
    let table = c.in_ok-sorted.sorted in
    let rows = c.in_ok-heads.ensures.only clean refl r tt contents was heads held.forms held.rows in
    let is : table ≡ heads = rising_same nat_list_cmp_total (λ (a : ZoneHead). a.name) table heads
    (IsPermutation-trans table c.in_ok-heads.heads.items heads (IsPermutation-sym c.in_ok-heads.heads.items table
    c.in_ok-sorted.ensures.same) rows) c.in_ok-sorted.ensures.rise held.rise in
    c.require_related.ensures.none bad (subst AreRelated (sym (c.into_vec.ensures.items ∙ is)) held.related)

pub returns-in_err-heads-clause-none : goal.returns-in_err-heads-clause-none
returns-in_err-heads-clause-none g c clean bad r i stands =
    returns-in_err-heads-clause-no_rows g c clean bad r (rows_under r i) (stands_rows r i _ stands)
    (map head_of i.zones) (heads_stand r i (stands_inventory r i _ stands))

pub returns-in_err-sorted-clause-none : goal.returns-in_err-sorted-clause-none
returns-in_err-sorted-clause-none g c clean bad r i stands =
    returns-in_err-sorted-clause-no_rows g c clean bad r (rows_under r i) (stands_rows r i _ stands)
    (map head_of i.zones) (heads_stand r i (stands_inventory r i _ stands))

pub returns-clause-found : goal.returns-clause-found
returns-clause-found g c clean r i stands =
    if_ok c.require_related.result _ _ (λ heads held.
    one_list (rows_under r i) heads.items (map head_of i.zones) held
    (heads_stand r i (stands_inventory r i _ stands)))
    (returns-clause-rows g c clean r (rows_under r i) (stands_rows r i _ stands))

pub returns-clause-none : goal.returns-clause-none
returns-clause-none g c clean bad r i stands =
    returns-clause-no_rows g c clean bad r (rows_under r i) (stands_rows r i _ stands) (map head_of i.zones)
    (heads_stand r i (stands_inventory r i _ stands))

pub returns-in_err-heads-clause-reads : goal.returns-in_err-heads-clause-reads
returns-in_err-heads-clause-reads g c r =
    reads_err g.S.Store _ _ _ c.args.conn.now c.load_query.new.conn c.load_query.result _ (search rules)
    (λ bad. search rules) (λ failed. search rules) (c.load_query.ensures.reads refl tt r tt)

pub returns-in_err-sorted-clause-reads : goal.returns-in_err-sorted-clause-reads
returns-in_err-sorted-clause-reads g c r =
    reads_more g.S.Store _ _ _ c.args.conn.now c.load_query.new.conn c.load_query.result c.in_ok-heads.heads _
    c.in_ok-heads.was (λ failed. search rules) (c.load_query.ensures.reads refl tt r tt)

pub returns-clause-reads : goal.returns-clause-reads
returns-clause-reads g c r =
    reads_more g.S.Store _ _ _ c.args.conn.now c.load_query.new.conn c.load_query.result c.in_ok-heads.heads _
    c.in_ok-heads.was c.require_related.ensures.fault (c.load_query.ensures.reads refl tt r tt)
