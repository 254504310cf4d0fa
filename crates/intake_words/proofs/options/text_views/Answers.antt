use Rattle.std.proofs.Common.{◌∷◌, [], ◌++◌, ◌∙◌, ap, map, take, sym, arith}
use Rattle.std.specs.String.{string_bytes}
use Rattle.std.proofs.lemmas.List.{take_all, take_more, map-append}
use Rattle.intake_words.proofs.options.text_views.Goals as goal

pub loop-text-preserved : goal.loop-text-preserved
loop-text-preserved c =
    let l = c.loop-text in
    let done = take l.text-index c.args.texts.now in
    let next = take_more c.args.texts.now l.text-index c.text-item.result (omega arith)
    ∙ ap (λ t. done ++ t ∷ []) (sym c.text-item.is) in
    ap (map (λ v. v.now)) c.in_ok-push.ensures.items ∙ map-append (λ v. v.now) l.views.items (c.as_str.result ∷ [])
    ∙ ap (λ done. done ++ c.as_str.result.now ∷ []) l.invariant
    ∙ ap (λ t. map string_bytes done ++ t ∷ []) c.as_str.ensures.value
    ∙ sym (ap (map string_bytes) next ∙ map-append string_bytes done (c.text-item.result ∷ []))

pub returns : goal.returns
returns c =
    c.loop-text.invariant ∙ ap (map string_bytes) (take_all c.loop-text.text-index c.args.texts.now (omega arith))
