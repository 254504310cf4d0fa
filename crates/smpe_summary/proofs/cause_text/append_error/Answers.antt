use Rattle.std.proofs.lemmas.Result.{on_ok_weaker}
use Rattle.std.proofs.Common.{◌++◌, ◌∙◌, ap}
use Rattle.smpe_summary.specs.Text.{error_words}
use Rattle.smpe_summary.proofs.cause_text.append_error.Goals as goal

pub returns : goal.returns
returns c =
    on_ok_weaker c.append_pieces.result
    (λ e. e ∙ ap (λ z. c.args.text.now.items ++ error_words z) c.as_bytes-id_bytes.ensures.same)
    c.append_pieces.ensures
