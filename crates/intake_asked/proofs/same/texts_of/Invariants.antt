use Rattle.std.proofs.Common.{◌≡◌, take, map}
use Rattle.intake_asked.proofs.same.texts_of.Given as goal

abbrev pub invariant-loop-value : goal.invariant-loop-value
invariant-loop-value g l = map (λ p. p.now) l.words.items ≡ map g.T.Worded.text (take l.value-index l.values)
