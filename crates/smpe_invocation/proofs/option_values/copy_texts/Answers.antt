use Rattle.std.proofs.Common.{◌∷◌, [], ◌++◌, ◌∙◌, ap, map, take, sym, arith}
use Rattle.std.specs.String.{string_bytes}
use Rattle.std.proofs.lemmas.List.{take_all, take_more, map-append}
use Rattle.smpe_invocation.proofs.option_values.copy_texts.Goals as goal

pub loop-text-preserved : goal.loop-text-preserved
loop-text-preserved c =
    let l = c.loop-text in
    let done = take l.text-index c.args.texts.now in
    let next = take_more c.args.texts.now l.text-index _ c.loop-text-test.true in
    ap (map string_bytes) c.in_ok-push.ensures.items
    ∙ map-append string_bytes l.copies.items (c.in_ok-copy.copy ∷ [])
    ∙ ap (λ copies. copies ++ string_bytes c.in_ok-copy.copy ∷ []) l.invariant
    ∙ ap (λ t. map (λ x. x.now) done ++ t ∷ []) c.in_ok-copy.ensures.ok
    ∙ sym (ap (map (λ x. x.now)) next ∙ map-append (λ x. x.now) done _)

pub returns : goal.returns
returns c =
    c.loop-text.invariant ∙ ap (map (λ x. x.now)) (take_all c.loop-text.text-index c.args.texts.now (omega arith))
