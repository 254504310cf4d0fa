use Rattle.std.proofs.Common.{[], List, ℕ, subst, arith}
use Rattle.solve.specs.Board.{IsSearch}
use Rattle.solve.proofs.Searches.{search_kept, search_strikes, eligible_le_pairs}
use Rattle.solve.proofs.worklist.Worklist.count.Goals as goal

pub returns-clause-kept : goal.returns-clause-kept
returns-clause-kept c =
    let b = c.follow_drops.new.self in
    let at : List ℕ → Type 0 = λ dropped. IsSearch c.args.system.now [] (λ k. Unit {0}) b.standing.items b.living.items
    dropped b.count.strikes b.dropped.cap in
    rw c.new.ensures (search_kept c.args.system.now b.standing.items b.living.items b.count.strikes b.dropped.cap
    (subst at c.follow_drops.ensures.done c.follow_drops.ensures.board))

pub returns-clause-strikes : goal.returns-clause-strikes
returns-clause-strikes c =
    let b = c.follow_drops.new.self in
    let at : List ℕ → Type 0 = λ dropped. IsSearch c.args.system.now [] (λ k. Unit {0}) b.standing.items b.living.items
    dropped b.count.strikes b.dropped.cap in
    rw c.new.ensures (search_strikes c.args.system.now b.standing.items b.living.items b.count.strikes b.dropped.cap
    (subst at c.follow_drops.ensures.done c.follow_drops.ensures.board))

pub returns-clause-turns : goal.returns-clause-turns
returns-clause-turns c =
    let p = c.args.system.now in
    omega (
      arith,
      c.follow_drops.ensures.turns,
      c.follow_drops.ensures.board.struck,
      eligible_le_pairs p,
      c.drop_unserved.ensures.board.total,
      c.drop_unserved.ensures.turns,
      c.drop_unserved.ensures.strikes,
      c.in_ok-board.ensures.turns,
      c.in_ok-board.ensures.strikes,
    )

pub new-requires : goal.new-requires
new-requires c = omega (arith, c.follow_drops.ensures.board.size, c.size.ensures.size)
