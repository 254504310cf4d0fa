use Rattle.std.proofs.Common.{rules, ap, ◌∙◌}
use Rattle.terms.specs.Types.{Ver}
use Rattle.store_rows.proofs.InsideLemmas.{if_ok}
use Rattle.store_sysmods.proofs.RowForms.{morever_bound}
use Rattle.store_sysmods.proofs.morever.make_further_ver_row.Goals as goal

pub returns : goal.returns
returns c =
    let v = c.args.ver.now in
    let x = c.args.id.now in
    let n = c.args.number in
    let view = c.ver.view_is in
    let row = morever_bound c.as_bytes.result.now c.as_bytes-2.result.now c.as_slice.result.now c.as_slice-2.result.now
    c.as_slice-3.result.now _ c.text_or_null-fmid.result x n v
    c.as_bytes.ensures.same (c.as_bytes-2.ensures.same ∙ ap (λ (u : Ver). u.srel) view) (search rules)
    (c.text_or_null-fmid.ensures ∙ ap (λ (u : Ver). Rattle.sqlite.specs.Values.or_null
    Rattle.sqlite.specs.declared.types.Value.TheVariants.Text u.fmid) view)
    (c.as_slice.ensures.value ∙ c.requires.lists.pre) (c.as_slice-2.ensures.value ∙ c.requires.lists.req)
    (c.as_slice-3.ensures.value ∙ c.requires.lists.sup) in
    if_ok c.row_of_values.result _ _ (λ cells bound. bound ∙ row) c.row_of_values.ensures
