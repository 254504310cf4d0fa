use Rattle.std.proofs.Common.{◌≡◌, ◌<◌, length, get_or, sym, ◌∙◌, ap, subst, arith}
use Rattle.std.proofs.lemmas.List.{get_or_default, length-map}
use Rattle.solve.specs.NeedView.{numbered}
use Rattle.solve.specs.Board.{need_at, IsDrop}
use Rattle.solve.proofs.Searches.{settle_drop, settle_pass, need_at_read}
use Rattle.solve.proofs.worklist.Board.drop_unserved.Goals as goal
use Rattle.solve.proofs.worklist.Board.drop_unserved.Goals.{then-index-eq0, else-index-eq0}

pub loop-k-preserved : goal.loop-k-preserved
loop-k-preserved c =
    let p = c.args.system.now in
    let k = c.loop-k.k in
    let b = c.loop-k.self in
    let before = c.loop-k.invariant.board in
    let needs = c.needs-need-items.result.now in
    let n = c.need-item.result in
    let below : k < length p.needs = omega (
      arith,
      c.loop-k-test.true,
      ap length c.needs-need-items.ensures.needs,
      length-map needs numbered,
    ) in
    let at = need_at_read needs p.needs k n c.needs-need-items.ensures.needs c.loop-k-test.true c.need-item.is in
    let of_is : (get_or needs k n).of ≡ (need_at p.needs k).of =
    ap (λ m. m.of) (sym c.need-item.is) ∙ ap (λ d. d.of) (sym at) in
    let small : (need_at p.needs k).of < p.size = subst (λ x. x < p.size) of_is
    (c.needs-need-items.ensures.valid k n c.loop-k-test.true).of in
    let read : c.index.result.now ≡ get_or b.living.items k 0 =
    c.index.ensures ∙ get_or_default b.living.items k c.index.result.now 0 (omega (arith, before.needs, below))
    in
    elim c.if-index-eq0.branch [
      | then-index-eq0 w ↦
          let new = w.drop_candidate.new.self in
          let drop = subst (λ x. IsDrop x b.standing.items b.dropped.items new.standing.items new.dropped.items)
          (ap (λ d. d.of) (sym at)) w.drop_candidate.ensures.drop in
          rw (w.self-is) (record {
            board = rw (w.drop_candidate.ensures.living, w.drop_candidate.ensures.count, w.drop_candidate.ensures.room)
                (settle_drop p b.standing.items new.standing.items b.living.items b.dropped.items new.dropped.items
                b.count.strikes b.dropped.cap k below small (sym read ∙ w.if-index-eq0.true) drop before);
            total = drop.total ∙ c.loop-k.invariant.total;
            strikes = ap (λ count. count.strikes) w.drop_candidate.ensures.count ∙ c.loop-k.invariant.strikes;
            turns = omega (arith, ap (λ count. count.turns) w.drop_candidate.ensures.count, c.loop-k.invariant.turns);
          })
      | else-index-eq0 w ↦ rw (w.self-is) (record {
        board = settle_pass p b.standing.items b.living.items b.dropped.items b.count.strikes b.dropped.cap k
            (λ none. w.if-index-eq0.false (read ∙ none)) before;
        total = c.loop-k.invariant.total;
        strikes = c.loop-k.invariant.strikes;
        turns = omega (arith, c.loop-k.invariant.turns);
      })
    ]
