use Rattle.std.proofs.Common.{◌⊎◌, inl}
use Rattle.terms.proofs.Each.{recursion_weaker}
use Rattle.terms.proofs.Results.{if_ok_both}
use Rattle.store_rows.proofs.InsideLemmas.{if_ok}
use Rattle.store_schema.specs.declared.schema.Schema.TheVariants.{Third}
use Rattle.store_sysmod_loads.proofs.Apart.{early_rows, rows_early}
use Rattle.store_sysmod_loads.proofs.loading.load_firsts_and_furthers.Goals as goal

pub returns-in-First-clause-rows : goal.returns-in-First-clause-rows
returns-in-First-clause-rows g c =
    let r = c.args.schema in
    let known = g.met.T.InTwoTables.each r in
    let row_of = g.T.Firsts.FromRow.row_of in
    let further_row_of = g.T.Furthers.FromRow.row_of in
    let HasForm = g.T.Firsts.FromRow.has_form in
    let HasFurther = g.T.Furthers.FromRow.has_form in
    record {
      found = λ clean contents was.
          if_ok_both c.load_sorted.result _ _ _ (λ rows forms held.
          early_rows row_of further_row_of HasForm HasFurther _ _ r c.in-First.is rows.items (forms, held))
          c.load_sorted.ensures.forms (c.load_sorted.ensures.found clean r known contents was);
      only = λ clean contents was.
          if_ok c.load_sorted.result _ _ (λ rows only xs held rise.
          let own = rows_early row_of further_row_of HasForm HasFurther _ _ r c.in-First.is xs held in
          only xs own.0 rise own.1)
          (c.load_sorted.ensures.only clean r known contents was);
      none = λ clean bad contents was xs held.
          let own = rows_early row_of further_row_of HasForm HasFurther _ _ r c.in-First.is xs held in
          c.load_sorted.ensures.none clean bad r known contents was xs own.0 own.1;
      reads = c.load_sorted.ensures.reads r known;
    }

pub returns-in-First-clause-forms : goal.returns-in-First-clause-forms
returns-in-First-clause-forms g c =
    let HasForm = g.T.Firsts.FromRow.has_form in
    let HasFurther = g.T.Furthers.FromRow.has_form in
    if_ok c.load_sorted.result _ _ (λ rows forms.
    recursion_weaker HasForm (λ x. HasForm x ⊎ HasFurther x) (λ x h. inl h) rows.items forms)
    c.load_sorted.ensures.forms

pub returns-in-Third-clause-rows : goal.returns-in-Third-clause-rows
returns-in-Third-clause-rows g c = rw c.in-Third.is (record {
  found = λ clean contents was.
      c.load_both_tables.ensures.found clean Third (g.met.T.InTwoTables.each Third) g.met.T.InTwoTables.third contents
      was;
  only = λ clean contents was.
      if_ok c.load_both_tables.result _ _ (λ rows only xs held rise. only held.0 held.1 xs held.2 rise)
      (c.load_both_tables.ensures.only clean Third (g.met.T.InTwoTables.each Third) g.met.T.InTwoTables.third contents
      was);
  none = λ clean bad contents was xs held.
      c.load_both_tables.ensures.none clean bad Third (g.met.T.InTwoTables.each Third) g.met.T.InTwoTables.third
      contents was held.0 held.1 xs held.2;
  reads = c.load_both_tables.ensures.reads Third (g.met.T.InTwoTables.each Third) g.met.T.InTwoTables.third;
})
