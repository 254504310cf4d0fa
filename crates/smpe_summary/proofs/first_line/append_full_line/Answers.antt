use Rattle.std.proofs.Common.{◌++◌, ◌∙◌, ap}
use Rattle.std.specs.Prelude.{codes}
use Rattle.smpe_summary.specs.Text.{line_start, parts, todo_parts}
use Rattle.smpe_summary.proofs.Growing.{on_ok_from, four}
use Rattle.smpe_summary.proofs.first_line.append_full_line.Goals as goal

pub returns : goal.returns
returns c =
    let s = c.args.summary.now in
    let one = c.append_start.new.text.items in
    let next = c.append_parts.new.text.items in
    let last = c.append_todo_parts.new.text.items in
    let end = c.extend_from_slice.new.self.items in
    on_ok_from c.extend_from_slice.result end (last ++ codes "\n") last c.extend_from_slice.ensures.items
    (four c.args.text.now.items (line_start s) (parts s.members.items) (todo_parts s.todo.items) (codes "\n") one next
    last end c.in_ok-append_start.ensures
    (c.in_ok-append_parts.ensures ∙ ap (λ ms. one ++ parts ms) c.as_slice.ensures.value)
    (c.in_ok-append_todo_parts.ensures ∙ ap (λ ts. next ++ todo_parts ts) c.as_slice-2.ensures.value))
