use Rattle.std.proofs.Common.{◌≡◌, IsErrOf, refl, rules, sym, ◌∙◌}
use Rattle.std.specs.Option.{option_to_list}
use Rattle.store_rows.proofs.Queries.{reads_err, reads_more}
use Rattle.store_rows.proofs.InsideLemmas.{if_ok}
use Rattle.store_rows.specs.declared.error.ReadError.TheVariants.{BadRow}
use Rattle.store_zones.proofs.Heads.{at_most_one, one_row, rows_asked}
use Rattle.store_zones.proofs.head.load_zone_head.Goals as goal

pub returns-in_err-heads-clause-no_rows : goal.returns-in_err-heads-clause-no_rows
returns-in_err-heads-clause-no_rows g c clean bad r contents was head held =
    let failed : IsErrOf c.load_query.result BadRow = search rules in
    c.load_query.ensures.none clean failed refl r tt contents was (option_to_list head) held.forms
    (rows_asked contents c.args.name.now c.as_bytes.result.now c.as_bytes.ensures.same head held)

pub returns-clause-rows : goal.returns-clause-rows
returns-clause-rows g c clean r contents was =
    let heads = c.in_ok-heads.heads.items in
    let rows = c.in_ok-heads.ensures.found clean refl r tt contents was in
    if_ok c.only_head.result _ _ (λ head one.
    let is : heads ≡ option_to_list head = sym c.as_slice.ensures.value ∙ one in
    one_row contents c.args.name.now c.as_bytes.result.now c.as_bytes.ensures.same heads head is rows
    c.in_ok-heads.ensures.forms) c.only_head.ensures.one

pub returns-clause-no_rows : goal.returns-clause-no_rows
returns-clause-no_rows g c clean bad r contents was head held =
    let is : c.as_slice.result.now ≡ option_to_list head = c.as_slice.ensures.value
    ∙ at_most_one c.in_ok-heads.heads.items head (c.in_ok-heads.ensures.only clean refl r tt contents was
    (option_to_list head) held.forms
    (rows_asked contents c.args.name.now c.as_bytes.result.now c.as_bytes.ensures.same head held)) in
    search rules

pub returns-in_err-heads-clause-reads : goal.returns-in_err-heads-clause-reads
returns-in_err-heads-clause-reads g c r =
    reads_err g.S.Store _ _ _ c.args.conn.now c.load_query.new.conn c.load_query.result _ (search rules)
    (λ bad. search rules) (λ failed. search rules) (c.load_query.ensures.reads refl ((_, refl), tt) r tt)

pub returns-clause-reads : goal.returns-clause-reads
returns-clause-reads g c r =
    reads_more g.S.Store _ _ _ c.args.conn.now c.load_query.new.conn c.load_query.result c.in_ok-heads.heads _
    c.in_ok-heads.was c.only_head.ensures.fault (c.load_query.ensures.reads refl ((_, refl), tt) r tt)
