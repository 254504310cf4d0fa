use Rattle.std.proofs.Common.{◌∙◌}
use Rattle.store_rows.proofs.InsideLemmas.{if_ok}
use Rattle.store_sysmods.proofs.RowForms.{source_bound}
use Rattle.store_sysmods.proofs.source.make_source_row.Goals as goal

pub returns : goal.returns
returns c =
    let row = source_bound c.as_bytes.result.now c.as_bytes-2.result.now c.args.id.now c.args.source.now
    c.as_bytes.ensures.same c.as_bytes-2.ensures.same in
    if_ok c.row_of_values.result _ _ (λ cells bound. bound ∙ row) c.row_of_values.ensures
