use Rattle.std.proofs.Common.{◌≡◌, ◌∷◌, [], ◌++◌, ◌∙◌, ap, false, map, refl, rules, Some}
use Rattle.machine.specs.Report.{words_line}
use Rattle.report.specs.WordTexts.{word_text}
use Rattle.report.proofs.Sending.{sent_whole}
use Rattle.report.proofs.line_words.append_words.Goals as goal

pub returns : goal.returns
returns c =
    let none : c.new-line.result.writer.items ≡ [] = search rules in
    let before : c.new-line.result.failed ≡ false = search rules in
    let after : c.write_words.new.w.failed ≡ false = search rules in
    let written : c.write_words.new.w.writer.items ≡ words_line (c.args.start.now ∷ map word_text c.args.words.now) =
    sent_whole _ _ _ _ _ _ (ap Some none) before refl after c.write_words.ensures.sends in
    let slice : c.as_slice.result.now ≡ c.write_words.new.w.writer.items = search rules in
    c.in_ok-extend_from_slice.ensures.items ∙ ap (λ t. c.args.text.now.items ++ t) (slice ∙ written)
