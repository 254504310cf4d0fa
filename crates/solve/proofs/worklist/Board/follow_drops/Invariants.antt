use Rattle.std.proofs.Common.{◌≡◌, ◌+◌, []}
use Rattle.solve.specs.Board.{AtRest, open_in}
use Rattle.solve.proofs.worklist.Board.follow_drops.Given as goal

abbrev pub invariant-loop-x : goal.invariant-loop-x
invariant-loop-x l = record {
  board : AtRest l.system [] l.self;
  turns : l.self.count.turns + open_in l.self + l.initial.self.count.strikes ≡ l.initial.self.count.turns + open_in
      l.initial.self + l.self.count.strikes;
}

abbrev pub decreases-loop-x : goal.decreases-loop-x
decreases-loop-x l = open_in l.self
