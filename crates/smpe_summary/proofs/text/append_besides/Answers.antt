use Rattle.std.proofs.lemmas.Result.{on_ok_weaker}
use Rattle.std.proofs.Common.{◌++◌, ◌∙◌, ap, map}
use Rattle.std.specs.Prelude.{codes}
use Rattle.smpe_summary.specs.Text.{ids_line, taken_text}
use Rattle.smpe_summary.specs.Views.{taken_view}
use Rattle.smpe_summary.proofs.Growing.{two}
use Rattle.smpe_summary.proofs.text.append_besides.Goals as goal

pub returns : goal.returns
returns c =
    let s = c.args.summary.now in
    let old = c.args.text.now.items in
    let one = c.append_ids_line.new.text.items in
    let words = codes "of earlier service go on too" in
    on_ok_weaker c.append_taken_off.result
    (λ e. two old (ids_line words s.also.items) (taken_text (map taken_view s.taken_off.items)) one
    c.append_taken_off.new.text.items
    (c.in_ok-append_ids_line.ensures ∙ ap (λ ids. old ++ ids_line words ids) c.as_slice.ensures.value)
    (e ∙ ap (λ xs. one ++ taken_text (map taken_view xs)) c.as_slice-2.ensures.value)) c.append_taken_off.ensures
