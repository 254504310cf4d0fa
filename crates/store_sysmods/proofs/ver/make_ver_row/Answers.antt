use Rattle.std.proofs.Common.{ap, ◌∙◌}
use Rattle.terms.specs.Types.{Ver}
use Rattle.store_rows.proofs.InsideLemmas.{if_ok}
use Rattle.store_sysmods.proofs.RowForms.{ver_bound}
use Rattle.store_sysmods.proofs.ver.make_ver_row.Goals as goal

pub returns : goal.returns
returns c =
    let v = c.args.ver.now in
    let x = c.args.id.now in
    let view = c.ver.view_is in
    let row = ver_bound c.as_bytes.result.now c.as_bytes-2.result.now c.as_slice.result.now c.as_slice-2.result.now
    c.as_slice-3.result.now c.as_slice-4.result.now c.as_slice-5.result.now c.text_or_null-fmid.result x v
    c.as_bytes.ensures.same (c.as_bytes-2.ensures.same ∙ ap (λ (u : Ver). u.srel) view)
    (c.text_or_null-fmid.ensures ∙ ap (λ (u : Ver). Rattle.sqlite.specs.Values.or_null
    Rattle.sqlite.specs.declared.types.Value.TheVariants.Text u.fmid) view)
    (c.as_slice.ensures.value ∙ c.requires.pre) (c.as_slice-2.ensures.value ∙ c.requires.req)
    (c.as_slice-3.ensures.value ∙ c.requires.sup) (c.as_slice-4.ensures.value ∙ c.requires.npre)
    (c.as_slice-5.ensures.value ∙ c.requires.del) in
    if_ok c.row_of_values.result _ _ (λ cells bound. bound ∙ row) c.row_of_values.ensures
