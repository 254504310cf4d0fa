use Rattle.std.proofs.lemmas.Result.{on_ok_weaker}
use Rattle.std.proofs.Common.{◌++◌, ◌∙◌, ap}
use Rattle.smpe_summary.specs.Text.{function_line}
use Rattle.smpe_summary.proofs.group_lines.append_function.Goals as goal

pub returns : goal.returns
returns c =
    on_ok_weaker c.append_pieces.result
    (λ e. e ∙ ap (λ f. c.args.text.now.items ++ function_line c.args.count c.args.all f) c.as_bytes-bytes.ensures.same)
    c.append_pieces.ensures
