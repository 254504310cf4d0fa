use Rattle.std.proofs.Common.{map}
use Rattle.intake_asked.proofs.Alike.{among}
use Rattle.intake_asked.proofs.same.have_same_texts.Goals as goal

pub returns-then-are_among : goal.returns-then-are_among
returns-then-are_among c = λ t x.
    let ones = c.args.texts.now in
    let others = c.args.others.now in (
      λ h. among (λ p. p.now) ones (map (λ p. p.now) others) (c.are_among.ensures.0 c.if-are_among.true) x h,
      λ h. among (λ p. p.now) others (map (λ p. p.now) ones) (c.are_among-then-are_among.ensures.0 t) x h,
    )
