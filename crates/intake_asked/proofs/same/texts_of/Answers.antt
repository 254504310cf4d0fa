use Rattle.std.proofs.Common.{◌∙◌, ◌∷◌, [], ap, map, arith}
use Rattle.std.proofs.lemmas.List.{take_all}
use Rattle.intake_asked.proofs.Passing.{map_next, more_found}
use Rattle.intake_asked.proofs.same.texts_of.Goals as goal

pub loop-value-preserved : goal.loop-value-preserved
loop-value-preserved g c =
    let l = c.loop-value in
    more_found (λ p. p.now) c.push.new.self.items l.words.items (c.word.result ∷ []) _ _ _
    c.in_ok-push.ensures.items l.invariant (ap (λ t. t ∷ []) c.word.ensures)
    (map_next g.T.Worded.text c.args.values.now l.value-index c.value-item.result (omega arith) c.value-item.is)

pub returns : goal.returns
returns g c =
    c.loop-value.invariant ∙ ap (map g.T.Worded.text)
    (take_all c.loop-value.value-index c.args.values.now (omega arith))
