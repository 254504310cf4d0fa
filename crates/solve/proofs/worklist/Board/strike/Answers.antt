use Rattle.std.proofs.Common.{◌≡◌, ◌<◌, ◌-◌, length, get_or, sym, ◌∙◌, ap, subst, arith}
use Rattle.std.proofs.lemmas.List.{get_or_default, length-map}
use Rattle.solve.specs.NeedView.{numbered}
use Rattle.solve.specs.Board.{need_at, IsDrop}
use Rattle.solve.proofs.Searches.{due_living, strike_drop, strike_pass, need_at_read}
use Rattle.solve.proofs.worklist.Board.strike.Goals as goal

pub overflow_sub-left : goal.overflow_sub-left
overflow_sub-left c =
    let b = c.args.self.now in
    let before = c.requires.due.1 in
    let read : c.index.result.now ≡ get_or b.living.items c.args.need 0 =
    c.index.ensures ∙ get_or_default b.living.items c.args.need c.index.result.now 0
    (omega (arith, before.needs, c.requires.need)) in
    omega (
      arith,
      read,
      due_living c.args.system.now c.args.need c.requires.due.0 (λ j. Unit {0}) b.standing.items
          b.living.items b.dropped.items b.count.strikes b.dropped.cap c.requires.need before,
    )

pub returns-then-left-eq0-clause-board : goal.returns-then-left-eq0-clause-board
returns-then-left-eq0-clause-board c rest before =
    let p = c.args.system.now in
    let k = c.args.need in
    let b = c.args.self.now in
    let living = b.living.items in
    let needs = c.needs.result.now in
    let n = c.index-needs-need.result in
    let new = c.drop_candidate.new.self in
    let in_needs : k < length needs = omega (
      arith,
      c.requires.need,
      ap length c.needs.ensures.needs,
      length-map needs numbered,
    ) in
    let at = need_at_read needs p.needs k n c.needs.ensures.needs in_needs c.index-needs-need.is in
    let read : c.index.result.now ≡ get_or living k 0 = c.index.ensures
    ∙ get_or_default living k c.index.result.now 0 (omega (arith, before.needs, c.requires.need)) in
    let of_is : (get_or needs k n).of ≡ (need_at p.needs k).of =
    ap (λ m. m.of) (sym c.index-needs-need.is) ∙ ap (λ d. d.of) (sym at) in
    let small : n.of < p.size = rw (← c.index-needs-need.is) at (c.needs.ensures.valid k n in_needs).of in
    rw (c.drop_candidate.ensures.living, c.drop_candidate.ensures.count, c.drop_candidate.ensures.room, read)
    (strike_drop p k rest b.standing.items new.standing.items living b.dropped.items new.dropped.items b.count.strikes
    b.dropped.cap c.requires.need
    (subst (λ d. d.of < p.size) (sym at) small)
    (ap (λ m. m - 1) (sym read) ∙ c.if-left-eq0.true)
    (subst (λ x. IsDrop x b.standing.items b.dropped.items new.standing.items new.dropped.items) of_is
    c.drop_candidate.ensures.drop)
    before)

pub returns-else-left-eq0-clause-board : goal.returns-else-left-eq0-clause-board
returns-else-left-eq0-clause-board c rest before =
    let b = c.args.self.now in
    let living = b.living.items in
    let read : c.index.result.now ≡ get_or living c.args.need 0 =
    c.index.ensures ∙ get_or_default living c.args.need c.index.result.now 0
    (omega (arith, before.needs, c.requires.need)) in
    let some : get_or living c.args.need 0 - 1 ≡ 0 → ⊥ = λ none. c.if-left-eq0.false (ap (λ m. m - 1) read ∙ none) in
    rw read (strike_pass c.args.system.now c.args.need rest b.standing.items living b.dropped.items b.count.strikes
    b.dropped.cap c.requires.need some before)
