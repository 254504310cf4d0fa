use Rattle.std.proofs.Common.{◌∷◌, [], ◌++◌, ◌∙◌, ap, map, take, sym, arith}
use Rattle.std.specs.String.{string_bytes}
use Rattle.std.proofs.lemmas.List.{take_all, take_more, map-append}
use Rattle.intake_words.proofs.Shapes.{own_handed_on}
use Rattle.intake_words.proofs.options.word_texts.Goals as goal

pub loop-word-preserved : goal.loop-word-preserved
loop-word-preserved c =
    let l = c.loop-word in
    let done = take l.word-index c.args.words.now in
    let next = take_more c.args.words.now l.word-index c.word-item.result (omega arith)
    ∙ ap (λ w. done ++ w ∷ []) (sym c.word-item.is) in
    ap (map string_bytes) c.in_ok-push.ensures.items
    ∙ map-append string_bytes l.texts.items (c.in_ok-text.text ∷ [])
    ∙ ap (λ texts. texts ++ string_bytes c.in_ok-text.text ∷ []) l.invariant
    ∙ ap (λ t. map (λ w. w.items) done ++ t ∷ []) (c.in_ok-text.ensures.ok ∙ c.as_slice.ensures.value)
    ∙ sym (ap (map (λ w. w.items)) next ∙ map-append (λ w. w.items) done (c.word-item.result ∷ []))

pub returns-in_err-text-clause-err : goal.returns-in_err-text-clause-err
returns-in_err-text-clause-err c = own_handed_on _ _ c.from_residual.ensures.1 c.in_err-text.ensures.err

pub returns-clause-ok : goal.returns-clause-ok
returns-clause-ok c =
    c.loop-word.invariant ∙ ap (map (λ w. w.items)) (take_all c.loop-word.word-index c.args.words.now (omega arith))
