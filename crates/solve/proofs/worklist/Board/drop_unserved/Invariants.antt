use Rattle.std.proofs.Common.{◌≡◌, ◌+◌}
use Rattle.solve.specs.Board.{SettledBelow, open_in}
use Rattle.solve.proofs.worklist.Board.drop_unserved.Given as goal

abbrev pub invariant-loop-k : goal.invariant-loop-k
invariant-loop-k l = record {
  board : SettledBelow l.system l.k l.self;
  total : open_in l.self ≡ open_in l.initial.self;
  strikes : l.self.count.strikes ≡ l.initial.self.count.strikes;
  turns : l.self.count.turns ≡ l.initial.self.count.turns + l.k;
}
