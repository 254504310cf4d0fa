use Rattle.std.proofs.Common.{◌⊎◌, ◌++◌, inl, inr, IsErrOf, arith, rules, sym, subst}
use Rattle.std.proofs.lemmas.List.Sorted.{IsPermutation-append, IsPermutation-trans}
use Rattle.sqlite.specs.Held.{state}
use Rattle.sqlite.specs.State.{HasCleanDisk}
use Rattle.sqlite_trees.proofs.ListLemmas.{all-permutation}
use Rattle.terms.proofs.Each.{recursion_append, recursion_weaker}
use Rattle.store_rows.specs.Rows.{HasContents}
use Rattle.store_rows.specs.declared.error.ReadError.TheVariants.{BadRow}
use Rattle.store_rows.proofs.Queries.{reads_err, reads_more, reads_then}
use Rattle.store_schema.specs.Earlier.{schema_under}
use Rattle.store_sysmod_loads.proofs.loading.load_both_tables.Goals as goal

pub returns-in_err-firsts-clause-none : goal.returns-in_err-firsts-clause-none
returns-in_err-firsts-clause-none g c clean bad r one two contents was firsts furthers xs h =
    let failed : IsErrOf c.load_query.result BadRow = search rules in
    c.load_query.ensures.none clean failed (sym g.met.T.Firsts.WholeTable.whole) r one contents was firsts
    h.firsts_forms
    h.firsts_are

pub returns-in_err-firsts-clause-reads : goal.returns-in_err-firsts-clause-reads
returns-in_err-firsts-clause-reads g c r one two =
    reads_err g.S.Store _ _ _ c.args.conn.now c.load_query.new.conn c.load_query.result _ (search rules)
    (λ bad. search rules) (λ failed. search rules)
    (c.load_query.ensures.reads (sym g.met.T.Firsts.WholeTable.whole) tt r one)

pub returns-in_err-furthers-clause-none : goal.returns-in_err-furthers-clause-none
returns-in_err-furthers-clause-none g c clean bad r one two contents was firsts furthers xs h =
    let failed : IsErrOf c.load_query-2.result BadRow = search rules in
    let before : HasCleanDisk (state g.S.Store c.load_query.new.conn) =
    omega (arith, clean, (c.load_query-2.ensures.reads (sym g.met.T.InTwoTables.whole) tt r two).crash.clean) in
    let same = (c.in_ok-firsts.ensures.reads (sym g.met.T.Firsts.WholeTable.whole) tt r one).same before in
    let later = subst (HasContents (schema_under r) contents) (sym same.0.now_is) was in
    c.load_query-2.ensures.none clean failed (sym g.met.T.InTwoTables.whole) r two contents later furthers
    h.furthers_forms h.furthers_are

pub returns-in_err-furthers-clause-reads : goal.returns-in_err-furthers-clause-reads
returns-in_err-furthers-clause-reads g c r one two =
    reads_then g.S.Store _ _ _ c.args.conn.now c.load_query.new.conn c.load_query-2.new.conn c.load_query.result
    c.in_ok-firsts.firsts _ c.in_ok-firsts.was
    (c.load_query.ensures.reads (sym g.met.T.Firsts.WholeTable.whole) tt r one)
    (reads_err g.S.Store _ _ _ c.load_query.new.conn c.load_query-2.new.conn c.load_query-2.result _ (search rules)
    (λ bad. search rules) (λ failed. search rules)
    (c.load_query-2.ensures.reads (sym g.met.T.InTwoTables.whole) tt r two))

pub returns-in_err-rows-clause-reads : goal.returns-in_err-rows-clause-reads
returns-in_err-rows-clause-reads g c r one two =
    reads_then g.S.Store _ _ _ c.args.conn.now c.load_query.new.conn c.load_query-2.new.conn c.load_query.result
    c.in_ok-firsts.firsts _ c.in_ok-firsts.was
    (c.load_query.ensures.reads (sym g.met.T.Firsts.WholeTable.whole) tt r one)
    (reads_more g.S.Store _ _ _ c.load_query.new.conn c.load_query-2.new.conn c.load_query-2.result
    c.in_ok-furthers.furthers _ c.in_ok-furthers.was (λ failed. search rules)
    (c.load_query-2.ensures.reads (sym g.met.T.InTwoTables.whole) tt r two))

pub returns-clause-reads : goal.returns-clause-reads
returns-clause-reads g c r one two =
    reads_then g.S.Store _ _ _ c.args.conn.now c.load_query.new.conn c.load_query-2.new.conn c.load_query.result
    c.in_ok-firsts.firsts _ c.in_ok-firsts.was
    (c.load_query.ensures.reads (sym g.met.T.Firsts.WholeTable.whole) tt r one)
    (reads_more g.S.Store _ _ _ c.load_query.new.conn c.load_query-2.new.conn c.load_query-2.result
    c.in_ok-furthers.furthers _ c.in_ok-furthers.was (λ failed. search rules)
    (c.load_query-2.ensures.reads (sym g.met.T.InTwoTables.whole) tt r two))

pub returns-clause-found : goal.returns-clause-found
returns-clause-found g c clean r one two contents was =
    let before : HasCleanDisk (state g.S.Store c.load_query.new.conn) =
    omega (arith, clean, (c.load_query-2.ensures.reads (sym g.met.T.InTwoTables.whole) tt r two).crash.clean) in
    let same = (c.in_ok-firsts.ensures.reads (sym g.met.T.Firsts.WholeTable.whole) tt r one).same before in
    let later = subst (HasContents (schema_under r) contents) (sym same.0.now_is) was in (
      c.in_ok-firsts.firsts.items,
      c.in_ok-furthers.furthers.items,
      record {
        firsts_forms = c.in_ok-firsts.ensures.forms;
        furthers_forms = c.in_ok-furthers.ensures.forms;
        firsts_are = c.in_ok-firsts.ensures.found before (sym g.met.T.Firsts.WholeTable.whole) r one contents was;
        furthers_are = c.in_ok-furthers.ensures.found clean (sym g.met.T.InTwoTables.whole) r two contents later;
        all = c.in_ok-rows.ensures.same;
      },
    )

pub returns-clause-forms : goal.returns-clause-forms
returns-clause-forms g c =
    let HasForm = g.T.Firsts.FromRow.has_form in
    let HasFurther = g.T.Furthers.FromRow.has_form in
    let firsts = c.in_ok-firsts.firsts.items in
    let furthers = c.in_ok-furthers.furthers.items in
    all-permutation (λ x. HasForm x ⊎ HasFurther x) (firsts ++ furthers) c.in_ok-rows.rows.items
    c.in_ok-rows.ensures.same
    (recursion_append (λ x. HasForm x ⊎ HasFurther x) firsts furthers
    (recursion_weaker HasForm (λ x. HasForm x ⊎ HasFurther x) (λ x h. inl h) firsts c.in_ok-firsts.ensures.forms)
    (recursion_weaker HasFurther (λ x. HasForm x ⊎ HasFurther x) (λ x h. inr h) furthers
    c.in_ok-furthers.ensures.forms))

pub returns-clause-only : goal.returns-clause-only
returns-clause-only g c clean r one two contents was firsts furthers xs h rises =
    let before : HasCleanDisk (state g.S.Store c.load_query.new.conn) =
    omega (arith, clean, (c.load_query-2.ensures.reads (sym g.met.T.InTwoTables.whole) tt r two).crash.clean) in
    let same = (c.in_ok-firsts.ensures.reads (sym g.met.T.Firsts.WholeTable.whole) tt r one).same before in
    let later = subst (HasContents (schema_under r) contents) (sym same.0.now_is) was in
    c.in_ok-rows.ensures.only xs (IsPermutation-trans _ (firsts ++ furthers) xs
    (IsPermutation-append _ firsts _ furthers
    (c.in_ok-firsts.ensures.only before (sym g.met.T.Firsts.WholeTable.whole) r one contents was firsts h.firsts_forms
    h.firsts_are)
    (c.in_ok-furthers.ensures.only clean (sym g.met.T.InTwoTables.whole) r two contents later furthers h.furthers_forms
    h.furthers_are)) h.all) rises
