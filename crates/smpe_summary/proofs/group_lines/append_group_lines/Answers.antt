use Rattle.std.proofs.lemmas.Result.{on_ok_weaker}
use Rattle.std.proofs.Common.{◌++◌, ◌∙◌, ap, length}
use Rattle.smpe_summary.specs.Groups.{functions_of}
use Rattle.smpe_summary.specs.Text.{early_groups, functions_text, late_groups}
use Rattle.smpe_summary.proofs.Growing.{three}
use Rattle.smpe_summary.proofs.group_lines.append_group_lines.Goals as goal

pub returns : goal.returns
returns c =
    let ms = c.args.members.now in
    let one = c.append_early_groups.new.text.items in
    let next = c.append_functions.new.text.items in
    on_ok_weaker c.append_late_groups.result
    (three c.args.text.now.items (early_groups ms) (functions_text (length ms) (functions_of ms)) (late_groups ms) one
    next c.append_late_groups.new.text.items c.in_ok-append_early_groups.ensures
    (c.in_ok-append_functions.ensures ∙ ap (λ fs. one ++ functions_text (length ms) fs)
    (c.as_slice.ensures.value ∙ c.in_ok-functions.ensures))) c.append_late_groups.ensures
