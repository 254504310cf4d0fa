use Rattle.std.proofs.lemmas.Result.{on_ok_weaker}
use Rattle.std.proofs.Common.{[], ◌++◌, ◌∙◌, ap, sym}
use Rattle.std.specs.Prelude.{if◌then◌else◌}
use Rattle.smpe_summary.specs.Text.{all_text, orders_of}
use Rattle.smpe_summary.proofs.todo_text.append_todo.Goals as goal

pub returns : goal.returns
returns c =
    let old = c.args.text.now.items in
    let ts = c.args.todo.now in
    let zone = c.args.zone in
    on_ok_weaker c.append_all.result
    (λ e. e ∙ ap (λ xs. old ++ all_text zone xs ts) (c.as_slice.ensures.value ∙ c.in_ok-orders.ensures)
    ∙ ap (λ b. old ++ (if b then [] else all_text zone (orders_of ts) ts))
    (sym (sym c.is_nothing.ensures ∙ c.if-is_nothing.false))) c.append_all.ensures
