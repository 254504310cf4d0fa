use Rattle.std.proofs.lemmas.Result.{on_ok_weaker}
use Rattle.std.proofs.Common.{◌++◌, ◌∙◌, ap}
use Rattle.smpe_summary.specs.Text.{first_line, middle, todo_text}
use Rattle.smpe_summary.proofs.Growing.{three}
use Rattle.smpe_summary.proofs.text.append_summary.Goals as goal

pub returns : goal.returns
returns c =
    let s = c.args.summary.now in
    let next = c.append_middle.new.text.items in
    on_ok_weaker c.append_todo.result
    (λ e. three c.args.text.now.items (first_line s) (middle s) (todo_text s.kind s.todo.items)
    c.append_first_line.new.text.items next c.append_todo.new.text.items c.in_ok-append_first_line.ensures
    c.in_ok-append_middle.ensures (e ∙ ap (λ ts. next ++ todo_text s.kind ts) c.as_slice.ensures.value))
    c.append_todo.ensures
