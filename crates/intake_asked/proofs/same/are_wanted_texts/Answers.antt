use Rattle.std.proofs.Common.{map, subst}
use Rattle.intake_asked.specs.Said.{AreThese}
use Rattle.intake_asked.proofs.same.are_wanted_texts.Goals as goal

pub returns : goal.returns
returns g c = λ t.
    subst (λ ones. AreThese ones (map (λ w. w.now) c.args.wanted.now)) c.in_ok-words.ensures
    (subst (λ ws. AreThese (map (λ w. w.now) ws) (map (λ w. w.now) c.args.wanted.now)) c.as_slice.ensures.value
    (c.have_same_texts.ensures t))
