use Rattle.std.proofs.Common.{rules, ap, ◌∙◌}
use Rattle.terms.specs.Types.{IfReq}
use Rattle.store_rows.proofs.InsideLemmas.{if_ok}
use Rattle.store_sysmods.proofs.RowForms.{ifreq_bound}
use Rattle.store_sysmods.proofs.ifreq.make_if_row.Goals as goal

pub returns : goal.returns
returns c =
    let i = c.args.ifreq.now in
    let x = c.args.ifs.now.id in
    let srel = c.args.ifs.now.srel in
    let n = c.args.number in
    let row = ifreq_bound c.as_bytes.result.now c.as_bytes-2.result.now c.as_bytes-3.result.now c.args.req.now _ n x
    srel i c.as_bytes.ensures.same c.as_bytes-2.ensures.same (search rules)
    (c.as_bytes-3.ensures.same ∙ ap (λ (j : IfReq). j.function) c.ifreq.view_is) c.requires.req in
    if_ok c.row_of_values.result _ _ (λ cells bound. bound ∙ row) c.row_of_values.ensures
