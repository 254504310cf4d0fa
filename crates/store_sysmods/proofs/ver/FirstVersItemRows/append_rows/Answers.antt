use Rattle.std.proofs.Common.{[], ◌∷◌, ◌∙◌, ap}
use Rattle.sqlite.specs.Order.{Row}
use Rattle.store_schema.specs.Rows.{ver_row, number_behind}
use Rattle.store_sysmods.proofs.Pushing.{one_pushed, none_pushed, some_first, none_first}
use Rattle.store_sysmods.proofs.ver.FirstVersItemRows.append_rows.Goals as goal

pub returns-then-number_after-ne1 : goal.returns-then-number_after-ne1
returns-then-number_after-ne1 c =
    none_pushed c.args.rows.now.items _ (none_first (ver_row c.args.self.now.id c.args.ver.now ∷ [])
    c.number_after.result (number_behind c.args.front.now c.args.ver.now) c.number_after.ensures.same
    c.if-number_after-ne1.true)

pub returns : goal.returns
returns c =
    one_pushed c.args.rows.now.items _ c.in_ok-make_ver_row.field-0 _ c.in_ok-push.ensures.items
    (ap (λ (row : Row). row ∷ []) c.in_ok-make_ver_row.ensures
    ∙ some_first (ver_row c.args.self.now.id c.args.ver.now ∷ []) c.number_after.result
    (number_behind c.args.front.now c.args.ver.now) c.number_after.ensures.same c.if-number_after-ne1.false)
