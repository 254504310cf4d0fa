use Rattle.std.proofs.Common.{◌≡◌, ◌+◌, drop}
use Rattle.solve.specs.Board.{AtRest, open_in}
use Rattle.solve.proofs.worklist.Board.strike_row.Given as goal

abbrev pub invariant-loop-need : goal.invariant-loop-need
invariant-loop-need l = record {
  board : AtRest l.system (drop l.need-index l.row) l.self;
  total : open_in l.self ≡ open_in l.initial.self;
  strikes : l.self.count.strikes ≡ l.initial.self.count.strikes + l.need-index;
  turns : l.self.count.turns ≡ l.initial.self.count.turns + l.need-index;
}
