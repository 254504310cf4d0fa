use Rattle.std.proofs.Common.{◌++◌, ◌∙◌, ◌-◌, ap, length}
use Rattle.std.specs.Prelude.{count_by}
use Rattle.std.specs.Str.{bytes_eq}
use Rattle.std.proofs.lemmas.Result.{on_ok_weaker}
use Rattle.smpe_summary.specs.Text.{function_line, others_line, function_lines}
use Rattle.smpe_summary.proofs.Growing.{two}
use Rattle.smpe_summary.proofs.group_lines.append_function_lines.Goals as goal

pub returns : goal.returns
unfolding function_lines
returns c =
    let old = c.args.text.now.items in
    let all = c.args.all in
    let fs = c.args.functions.now in
    let f = c.args.function.now in
    let k = count_by (bytes_eq f) fs in
    let one = c.append_function.new.text.items in
    on_ok_weaker c.append_others.result
    (λ e. two old (function_line k all f) (others_line (length fs - k)) one c.append_others.new.text.items
    (c.in_ok-append_function.ensures ∙ ap (λ n. old ++ function_line n all f) c.count_of-count.ensures)
    (e ∙ ap (λ n. one ++ others_line n) (c.saturating_sub.ensures ∙ ap (λ n. length fs - n) c.count_of-count.ensures)))
    c.append_others.ensures
