use Rattle.std.proofs.Common.{◌∙◌, ◌++◌, ◌∷◌, [], ap, map, subst}
use Rattle.intake_asked.specs.Said.{AreThese}
use Rattle.intake_asked.proofs.same.is_only_wanted_text.Goals as goal

pub returns : goal.returns
returns g c = λ t.
    let w = map (λ w. w.now) c.args.wanted.now in
    subst (λ x. AreThese (x ∷ []) w) c.word.ensures (subst (λ ws. AreThese (map (λ w. w.now) ws) w)
    (c.in_ok-push.ensures.items ∙ ap (λ ws. ws ++ c.word.result ∷ []) c.new-words.ensures.items)
    (subst (λ ws. AreThese (map (λ w. w.now) ws) w) c.as_slice.ensures.value
    (c.have_same_texts.ensures t)))
