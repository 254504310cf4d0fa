use Rattle.std.proofs.Common.{[], map, ap, ap₂, ◌∙◌}
use Rattle.std.specs.List.{enumerate_from}
use Rattle.terms.specs.Types.{Ver}
use Rattle.store_schema.specs.Rows.{ifreq_row, number_behind}
use Rattle.store_rows.proofs.InsideLemmas.{on_ok}
use Rattle.store_rows.specs.Rows.{as_bound}
use Rattle.store_sysmods.proofs.Behind.{counted_behind}
use Rattle.store_sysmods.proofs.Pushing.{pushed_as, none_pushed, some_first, none_first}
use Rattle.store_sysmods.proofs.ifreq.FirstIfsItemRows.append_rows.Goals as goal

pub returns-then-number_after-ne1 : goal.returns-then-number_after-ne1
returns-then-number_after-ne1 c =
    let v = c.args.ver.now in
    none_pushed c.args.rows.now.items _ (none_first
    (map (ifreq_row c.args.self.now.id v.srel) (enumerate_from 1 v.ifs)) c.number_after.result
    (number_behind c.args.front.now v) c.number_after.ensures.same c.if-number_after-ne1.true)

pub returns : goal.returns
returns c =
    let v = c.args.ver.now in
    let x = c.args.self.now.id in
    let rows = ap₂ (λ srel ifs. map (ifreq_row x srel) (enumerate_from 1 ifs))
    (ap (λ (w : Ver). w.srel) c.ver.view_is) (c.as_slice.ensures.value ∙ ap (λ (w : Ver). w.ifs) c.ver.view_is) in
    on_ok c.append_all_rows.result _ _ (pushed_as (map as_bound c.args.rows.now.items)
    (counted_behind (ifreq_row x c.ver.inside.srel) [] c.as_slice.result.now ∙ rows
    ∙ some_first (map (ifreq_row x v.srel) (enumerate_from 1 v.ifs)) c.number_after.result
    (number_behind c.args.front.now v) c.number_after.ensures.same c.if-number_after-ne1.false))
    c.append_all_rows.ensures
