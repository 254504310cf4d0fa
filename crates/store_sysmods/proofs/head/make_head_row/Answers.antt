use Rattle.std.proofs.Common.{ap, ◌∙◌}
use Rattle.terms.specs.Types.{Sysmod}
use Rattle.terms.specs.Spelling.{kind_text}
use Rattle.store_rows.proofs.InsideLemmas.{if_ok}
use Rattle.store_sysmods.proofs.RowForms.{sysmod_bound}
use Rattle.store_sysmods.proofs.head.make_head_row.Goals as goal

pub returns : goal.returns
returns c =
    let s = c.args.sysmod.now in
    let view = c.sysmod.view_is in
    let row = sysmod_bound c.as_bytes.result.now c.kind_text.result.now s
    (c.as_bytes.ensures.same ∙ ap (λ (t : Sysmod). t.id) view)
    (c.kind_text.ensures ∙ ap (λ (t : Sysmod). kind_text t.kind) view) in
    if_ok c.row_of_values.result _ _ (λ cells bound. bound ∙ row) c.row_of_values.ensures
