use Rattle.std.proofs.lemmas.Result.{on_ok_weaker}
use Rattle.std.proofs.Common.{[], ◌∷◌, ◌++◌, ◌∙◌, ap}
use Rattle.std.specs.Prelude.{codes}
use Rattle.std.specs.List.{concat}
use Rattle.smpe_summary.specs.Text.{open_words}
use Rattle.smpe_summary.proofs.cause_text.append_open.Goals as goal

pub returns : goal.returns
returns c =
    let old = c.args.text.now.items in
    let z = c.as_bytes.result.now in
    on_ok_weaker c.append_pieces.result
    (λ e. e ∙ ap (λ k. old ++ concat (k ∷ codes " " ∷ z ∷ codes " is not received" ∷ [])) c.need_text.ensures
    ∙ ap (λ x. old ++ open_words c.args.kind x) c.as_bytes.ensures.same) c.append_pieces.ensures
