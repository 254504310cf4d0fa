use Rattle.std.proofs.Common.{IsErrOf, rules, sym}
use Rattle.std.proofs.lemmas.List.Sorted.{IsPermutation-sym, IsPermutation-trans, IsPermutation-map}
use Rattle.sqlite_rules.proofs.ListLemmas.{all_has, all_from}
use Rattle.store_rows.proofs.Queries.{reads_err, reads_more}
use Rattle.store_rows.specs.declared.error.ReadError.TheVariants.{BadRow}
use Rattle.store_rows.proofs.RowLemmas.{has_permuted}
use Rattle.store_sysmods.proofs.listed.load_sorted.Goals as goal

pub returns-in_err-items-clause-none : goal.returns-in_err-items-clause-none
returns-in_err-items-clause-none g c clean bad r known contents was xs forms same =
    let failed : IsErrOf c.load_query.result BadRow = search rules in
    c.load_query.ensures.none clean failed (sym g.met.T.WholeTable.whole) r known contents was xs forms same

pub returns-clause-found : goal.returns-clause-found
returns-clause-found g c clean r known contents was =
    IsPermutation-trans _ _ _ (IsPermutation-map g.T.Rows.FromRow.row_of _ _
    (IsPermutation-sym _ _ c.sort_by_keys.ensures.same))
    (c.in_ok-items.ensures.found clean (sym g.met.T.WholeTable.whole) r known contents was)

pub returns-clause-forms : goal.returns-clause-forms
returns-clause-forms g c =
    let old = c.in_ok-items.items.items in
    let new = c.sort_by_keys.result.items in
    all_from g.T.Rows.FromRow.has_form new (λ x there. all_has g.T.Rows.FromRow.has_form old x
    c.in_ok-items.ensures.forms (has_permuted new old x (IsPermutation-sym _ _ c.sort_by_keys.ensures.same) there))

pub returns-clause-only : goal.returns-clause-only
returns-clause-only g c clean r known contents was xs forms rises same =
    c.sort_by_keys.ensures.only xs (c.in_ok-items.ensures.only clean (sym g.met.T.WholeTable.whole) r known
    contents was xs forms same)
    rises

pub returns-in_err-items-clause-reads : goal.returns-in_err-items-clause-reads
returns-in_err-items-clause-reads g c r known =
    reads_err g.S.Store _ _ _ c.args.conn.now c.load_query.new.conn c.load_query.result _ (search rules)
    (λ bad. search rules) (λ failed. search rules)
    (c.load_query.ensures.reads (sym g.met.T.WholeTable.whole) tt r known)

pub returns-clause-reads : goal.returns-clause-reads
returns-clause-reads g c r known =
    reads_more g.S.Store _ _ _ c.args.conn.now c.load_query.new.conn c.load_query.result c.in_ok-items.items _
    c.in_ok-items.was (λ failed. search rules)
    (c.load_query.ensures.reads (sym g.met.T.WholeTable.whole) tt r known)
