use Rattle.std.proofs.Common.{[], ◌∷◌, ◌∙◌, ap}
use Rattle.sqlite.specs.Order.{Row}
use Rattle.store_schema.specs.Rows.{morever_row, number_behind}
use Rattle.store_sysmods.proofs.Pushing.{one_pushed, none_pushed, some_further, none_further}
use Rattle.store_sysmods.proofs.morever.FurtherVersItemRows.append_rows.Goals as goal

pub returns-then-number-eq1 : goal.returns-then-number-eq1
returns-then-number-eq1 c =
    let v = c.args.ver.now in
    let k = number_behind c.args.front.now v in
    none_pushed c.args.rows.now.items _ (none_further (morever_row c.args.self.now.id (k, v) ∷ [])
    c.number_after-number.result k c.number_after-number.ensures.same c.if-number-eq1.true)

pub returns : goal.returns
returns c =
    let v = c.args.ver.now in
    let k = number_behind c.args.front.now v in
    let same = c.number_after-number.ensures.same in
    let x = c.args.self.now.id in
    one_pushed c.args.rows.now.items _ c.in_ok-make_further_ver_row.field-0 _ c.in_ok-push.ensures.items
    (ap (λ (row : Row). row ∷ []) c.in_ok-make_further_ver_row.ensures ∙ ap (λ m. morever_row x (m, v) ∷ []) same
    ∙ some_further (morever_row x (k, v) ∷ []) c.number_after-number.result k same c.if-number-eq1.false)
