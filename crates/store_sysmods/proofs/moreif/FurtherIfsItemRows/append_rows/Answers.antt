use Rattle.std.proofs.Common.{[], map, ap, ap₂, ◌∙◌}
use Rattle.std.specs.List.{enumerate_from}
use Rattle.terms.specs.Types.{Ver}
use Rattle.store_rows.proofs.InsideLemmas.{on_ok}
use Rattle.store_rows.specs.Rows.{as_bound}
use Rattle.store_schema.specs.Rows.{moreif_row, number_behind}
use Rattle.store_sysmods.proofs.Behind.{counted_behind}
use Rattle.store_sysmods.proofs.Pushing.{pushed_as, none_pushed, some_further, none_further}
use Rattle.store_sysmods.proofs.moreif.FurtherIfsItemRows.append_rows.Goals as goal

pub returns-then-place-eq1 : goal.returns-then-place-eq1
returns-then-place-eq1 c =
    let v = c.args.ver.now in
    let k = number_behind c.args.front.now v in
    none_pushed c.args.rows.now.items _ (none_further
    (map (moreif_row c.args.self.now.id v.srel k) (enumerate_from 1 v.ifs)) c.number_after-place.result k
    c.number_after-place.ensures.same c.if-place-eq1.true)

pub returns : goal.returns
returns c =
    let v = c.args.ver.now in
    let x = c.args.self.now.id in
    let n = c.number_after-place.result in
    let k = number_behind c.args.front.now v in
    let same = c.number_after-place.ensures.same in
    let rows = ap₂ (λ srel ifs. map (moreif_row x srel n) (enumerate_from 1 ifs))
    (ap (λ (w : Ver). w.srel) c.ver.view_is) (c.as_slice.ensures.value ∙ ap (λ (w : Ver). w.ifs) c.ver.view_is) in
    on_ok c.append_all_rows.result _ _ (pushed_as (map as_bound c.args.rows.now.items)
    (counted_behind (moreif_row x c.ver.inside.srel n) [] c.as_slice.result.now ∙ rows
    ∙ ap (λ m. map (moreif_row x v.srel m) (enumerate_from 1 v.ifs)) same
    ∙ some_further (map (moreif_row x v.srel k) (enumerate_from 1 v.ifs)) n k same c.if-place-eq1.false))
    c.append_all_rows.ensures
