use Rattle.std.proofs.Common.{ap, ◌∙◌}
use Rattle.sqlite.specs.Values.{or_null}
use Rattle.sqlite.specs.declared.types.Value.TheVariants.{Text}
use Rattle.terms.specs.Types.{Change}
use Rattle.terms.specs.Spelling.{type_text}
use Rattle.store_rows.proofs.InsideLemmas.{if_ok}
use Rattle.store_schema.specs.Rows.{flag}
use Rattle.store_sysmods.specs.Elems.{is_update, distlib_of, syslib_of}
use Rattle.store_sysmods.proofs.RowForms.{elem_bound}
use Rattle.store_sysmods.proofs.elem.make_element_row.Goals as goal

pub returns : goal.returns
returns c =
    let x = c.args.id.now in
    let change = c.args.change.now in
    let view = c.change.view_is in
    let row = elem_bound c.as_bytes.result.now c.type_text.result.now c.as_bytes-2.result.now c.args.text.now
    c.update_value-update.result c.distlib_value-distlib.result c.syslib_value-syslib.result x change
    c.as_bytes.ensures.same (c.type_text.ensures ∙ ap (λ (a : Change). type_text a.elem_type) view)
    (c.as_bytes-2.ensures.same ∙ ap (λ (a : Change). a.name) view)
    (c.update_value-update.ensures ∙ ap (λ (a : Change). flag (is_update a.action)) view)
    (c.distlib_value-distlib.ensures ∙ ap (λ (a : Change). or_null Text (distlib_of a.action)) view)
    (c.syslib_value-syslib.ensures ∙ ap (λ (a : Change). or_null Text (syslib_of a.action)) view) c.requires in
    if_ok c.row_of_values.result _ _ (λ cells bound. bound ∙ row) c.row_of_values.ensures
