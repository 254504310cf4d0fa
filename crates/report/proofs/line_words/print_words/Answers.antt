use Rattle.std.proofs.Common.{[], ◌∷◌, ◌++◌, ◌∙◌, ap, take, take_all}
use Rattle.std.specs.List.{flat_map}
use Rattle.report.specs.WordTexts.{word_text}
use Rattle.report.proofs.Paging.{paged_then, paged_as}
use Rattle.report.proofs.Texts.{flat_map_more, words_put}
use Rattle.report.proofs.line_words.print_words.Goals as goal

pub loop-word-preserved : goal.loop-word-preserved
loop-word-preserved g c =
    let words = c.args.words.now in
    paged_as _ _ _ _ _ _
    (ap (λ w. flat_map (λ w. 32 ∷ word_text w) (take c.loop-word.word-index words) ++ 32 ∷ word_text w) c.word-item.is
    ∙ flat_map_more (λ w. 32 ∷ word_text w) words c.loop-word.word-index c.word-item.result c.loop-word-test.true)
    (paged_then _ _ _ _ _ _ _ _ c.loop-word.invariant
    (paged_then _ _ _ _ _ _ _ _ c.print-in-loop-word.ensures.paged c.print_word.ensures))

pub returns-clause-paged : goal.returns-clause-paged
returns-clause-paged g c =
    let words = c.args.words.now in
    paged_as _ _ _ _ _ _
    (ap (λ ws. c.args.start.now ++ (flat_map (λ w. 32 ∷ word_text w) ws ++ 10 ∷ []))
    (take_all c.loop-word.word-index words c.loop-word-test.false) ∙ words_put c.args.start.now words)
    (paged_then _ _ _ _ _ _ _ _ c.print.ensures.paged
    (paged_then _ _ _ _ _ _ _ _ c.loop-word.invariant c.print-2.ensures.paged))
