use Rattle.std.proofs.lemmas.Result.{on_ok_weaker}
use Rattle.std.proofs.Common.{◌++◌, ◌∙◌, ap, sym}
use Rattle.std.specs.Prelude.{if◌then◌else◌}
use Rattle.smpe_summary.specs.Text.{error_words, open_words}
use Rattle.smpe_summary.proofs.cause_text.append_need.Goals as goal

pub returns-then-is_error_hold : goal.returns-then-is_error_hold
returns-then-is_error_hold c =
    let z = c.args.id.now in
    on_ok_weaker c.append_error.result
    (λ e. e ∙ ap (λ b. c.args.text.now.items ++ (if b then error_words z else open_words c.args.kind z))
    (sym (sym c.is_error_hold.ensures ∙ c.if-is_error_hold.true))) c.append_error.ensures

pub returns : goal.returns
returns c =
    let z = c.args.id.now in
    on_ok_weaker c.append_open.result
    (λ e. e ∙ ap (λ b. c.args.text.now.items ++ (if b then error_words z else open_words c.args.kind z))
    (sym (sym c.is_error_hold.ensures ∙ c.if-is_error_hold.false))) c.append_open.ensures
