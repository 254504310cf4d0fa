use Rattle.std.proofs.Common.{◌≡◌, ◌<◌, ◌+◌, ◌^◌, [], List, ℕ, length, subst, arith}
use Rattle.std.specs.List.{All}
use Rattle.solve.specs.Board.{IsSearch}
use Rattle.solve.specs.Rows.{row_at}
use Rattle.solve.proofs.Added.{row_at_read}
use Rattle.solve.proofs.Searches.{search_take, last_small, served_small, eligible_le_pairs}
use Rattle.solve.proofs.worklist.Board.follow_drops.Goals.{In-Some, After-deref}
use Rattle.solve.proofs.worklist.Board.follow_drops.Goals as goal

room : (c : In-Some) → c.loop-x.self.count.turns + 2 ^ 64 < 2 ^ 128
room c =
    omega (
      arith,
      c.loop-x.invariant.turns,
      c.loop-x.invariant.board.struck,
      eligible_le_pairs c.args.system.now,
      c.requires.few,
      c.requires.turns,
      c.requires.board.total,
    )

pub overflow_add-self : goal.overflow_add-self
overflow_add-self c = omega (arith, room (goal.at.overflow_add-self c).In-Some)

row : (c : After-deref) → row_at c.args.served.now c.in-Some.x ≡ c.deref.result.now
row c =
    let p = c.args.system.now in
    let x = c.in-Some.x in
    let members = subst (All (λ y. y < p.size)) c.in-Some.ensures.items c.loop-x.invariant.board.members in
    let small = last_small p c.pop.new.self.items x members in
    row_at_read c.args.served.now x c.index-served-x.result c.deref.result.now (omega (arith, c.requires.size, small))
    c.index-served-x.is c.deref.ensures.value

pub strike_row-requires-clause-row : goal.strike_row-requires-clause-row
strike_row-requires-clause-row c =
    let p = c.args.system.now in
    subst (All (λ k. k < length p.needs)) (row (goal.at.strike_row-requires-clause-row c).After-deref)
    (served_small p c.args.served.now c.requires.served c.in-Some.x)

pub strike_row-requires-clause-board : goal.strike_row-requires-clause-board
strike_row-requires-clause-board c =
    let p = c.args.system.now in
    let b = c.loop-x.self in
    let left = c.pop.new.self.items in
    let at : List ℕ → Type 0 = λ dropped. IsSearch p [] (λ k. Unit {0}) b.standing.items b.living.items dropped
    b.count.strikes b.dropped.cap in
    let taken = search_take p c.args.served.now c.in-Some.x (λ k. Unit {0}) b.standing.items b.living.items left
    b.count.strikes b.dropped.cap c.requires.served (subst at c.in-Some.ensures.items c.loop-x.invariant.board) in
    rw (c.in-Some.ensures.capacity) (subst (λ due. IsSearch p due (λ k. Unit {0}) b.standing.items b.living.items left
    b.count.strikes b.dropped.cap) (row (goal.at.strike_row-requires-clause-board c).After-deref) taken)

pub strike_row-requires-clause-turns : goal.strike_row-requires-clause-turns
strike_row-requires-clause-turns c =
    omega (arith, room (goal.at.strike_row-requires-clause-turns c).In-Some, c.deref.type_inv)
