use Rattle.std.proofs.Common.{◌≡◌, ◌++◌, ◌∙◌, ap, length, map, sym, take}
use Rattle.std.specs.Prelude.{codes}
use Rattle.std.specs.List.{flat_map}
use Rattle.std.proofs.lemmas.List.{length-map, take-map}
use Rattle.std.proofs.lemmas.Result.{on_ok_weaker}
use Rattle.smpe_summary.specs.Text.{taken_line, more_line}
use Rattle.smpe_summary.specs.Views.{taken_view}
use Rattle.smpe_summary.proofs.Growing.{two}
use Rattle.smpe_summary.proofs.text.append_taken_off.Goals as goal

pub returns : goal.returns
returns c =
    let old = c.args.text.now.items in
    let xs = c.args.taken_off.now in
    let one = c.append_taken_lines.new.text.items in
    let words = codes "that take SYSMODs off" in
    on_ok_weaker c.append_more_line.result
    (λ e. two old (flat_map taken_line (take 2 (map taken_view xs))) (more_line 2 (length (map taken_view xs)) words) one
    c.append_more_line.new.text.items
    (c.in_ok-append_taken_lines.ensures ∙ ap (λ l. old ++ flat_map taken_line (map taken_view l)) c.first_of.ensures
    ∙ ap (λ l. old ++ flat_map taken_line l) (sym (take-map taken_view 2 xs)))
    (e ∙ ap (λ n. one ++ more_line 2 n words) (sym (length-map xs taken_view)))) c.append_more_line.ensures
