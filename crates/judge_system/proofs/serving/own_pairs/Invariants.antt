use Rattle.judge_system.specs.Serving.{AreOwn}
use Rattle.judge_system.proofs.serving.own_pairs.Given as goal

-- the places so far
abbrev pub invariant-loop-i : goal.invariant-loop-i
invariant-loop-i l = AreOwn l.ids l.i l.pairs.items
