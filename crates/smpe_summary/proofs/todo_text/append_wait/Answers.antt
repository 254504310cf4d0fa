use Rattle.std.proofs.lemmas.Result.{on_ok_weaker}
use Rattle.std.proofs.Common.{◌++◌, ◌∙◌, ap}
use Rattle.smpe_summary.specs.Text.{wait_line}
use Rattle.smpe_summary.proofs.todo_text.append_wait.Goals as goal

pub returns : goal.returns
returns c =
    let old = c.args.text.now.items in
    on_ok_weaker c.append_pieces.result
    (λ e. e ∙ ap (λ x. old ++ wait_line x c.args.reasons.now) c.as_bytes-id_bytes.ensures.same) c.append_pieces.ensures
