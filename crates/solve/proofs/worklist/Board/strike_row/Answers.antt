use Rattle.std.proofs.Common.{◌+◌, List, ℕ, drop, subst, ◌∙◌, arith}
use Rattle.std.proofs.lemmas.List.{drop_more}
use Rattle.solve.specs.Board.{AtRest}
use Rattle.solve.proofs.Searches.{eligible_le_pairs}
use Rattle.solve.proofs.worklist.Board.strike_row.Goals as goal

pub strike-requires-clause-strikes : goal.strike-requires-clause-strikes
strike-requires-clause-strikes c = omega (
  arith,
  c.loop-need.invariant.board.struck,
  eligible_le_pairs c.args.system.now,
  c.requires.few,
)

pub loop-need-preserved : goal.loop-need-preserved
loop-need-preserved c =
    let row = c.args.row.now in
    let i = c.loop-need.need-index in
    let due : List ℕ → Type 0 = λ ks. AtRest c.args.system.now ks c.loop-need.self in
    record {
      board = c.strike.ensures.board (drop (i + 1) row) (subst due (drop_more row i 0 c.loop-need-test.true)
          c.loop-need.invariant.board);
      total = c.strike.ensures.open ∙ c.loop-need.invariant.total;
      strikes = omega arith;
      turns = omega arith;
    }
