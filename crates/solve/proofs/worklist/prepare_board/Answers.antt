use Rattle.std.proofs.Common.{◌≡◌, ◌<◌, ◌≤◌, ◌^◌, ◌++◌, length, map, take, drop}
use Rattle.std.proofs.Common.{take_all, sym, ◌∙◌, ap, arith, rules}
use Rattle.std.proofs.lemmas.List.{length-map}
use Rattle.std.proofs.lemmas.Grind.{common_steps}
use Rattle.solve.specs.NeedView.{numbered}
use Rattle.solve.specs.Board.{eligible_in}
use Rattle.solve.proofs.Searches.{pairs_more, pairs_few, start_room, living_more, served_next, search_start}
use Rattle.solve.proofs.worklist.prepare_board.Goals as goal

pub overflow_add-turns-in-loop-k : goal.overflow_add-turns-in-loop-k
overflow_add-turns-in-loop-k c =
    let p = c.args.system.now in
    let needs = c.needs-needs.result.now in
    let small : p.size < 2 ^ 63 = omega (arith, c.eligible.ensures.len, c.eligible.type_inv) in
    let short : length needs < 2 ^ 60 = omega (arith, c.needs-needs.type_inv) in
    omega (
      arith,
      start_room p needs c.loop-k.k c.index-needs-k.result c.needs-needs.ensures.needs c.size-size.ensures.valid
          small short c.loop-k-test.true c.index-needs-k.is,
      c.loop-k.invariant.turns,
    )

pub index_need-requires-clause-room : goal.index_need-requires-clause-room
index_need-requires-clause-room c =
    let p = c.args.system.now in
    let needs = c.needs-needs.result.now in
    let small : p.size < 2 ^ 63 = omega (arith, c.eligible.ensures.len, c.eligible.type_inv) in
    let short : length needs < 2 ^ 60 = omega (arith, c.needs-needs.type_inv) in
    omega (
      arith,
      ap length c.deref.ensures.value,
      start_room p needs c.loop-k.k c.index-needs-k.result c.needs-needs.ensures.needs c.size-size.ensures.valid
          small short c.loop-k-test.true c.index-needs-k.is,
      c.loop-k.invariant.turns,
    )

pub loop-k-preserved : goal.loop-k-preserved
loop-k-preserved c =
    let p = c.args.system.now in
    let needs = c.needs-needs.result.now in
    let k = c.loop-k.k in
    let n = c.index-needs-k.result in
    let old = c.loop-k.served.items in
    let new = c.index_need.new.served in
    let whole : take c.loop-k.served.len (new ++ drop (length new) old) ≡ new = grind (arith, common_steps) in
    record {
      living = c.in_ok-push-2.ensures.items ∙ living_more p needs k n c.loop-k.living.items c.in_ok-alive.alive
          c.loop-k-test.true c.index-needs-k.is
          (rw (c.eligible-in-loop-k.ensures.flags, c.deref.ensures.value) at c.in_ok-alive.ensures.living)
          c.loop-k.invariant.living;
      served = rw whole (served_next needs k n old new c.loop-k-test.true c.index-needs-k.is
          (rw (c.deref_mut.ensures.value, c.deref.ensures.value) at c.in_ok-alive.ensures.rows)
          c.loop-k.invariant.served);
      size = ap length whole ∙ (omega (
        arith,
        c.index_need.auto.served,
        c.deref_mut.ensures.len,
        c.loop-k.invariant.size,
      ));
      turns = omega (
        arith,
        c.in_ok-alive.ensures.turns,
        ap length c.deref.ensures.value,
        c.loop-k.invariant.turns,
        pairs_more needs k n c.loop-k-test.true c.index-needs-k.is,
      );
    }

pub returns-clause-board : goal.returns-clause-board
returns-clause-board c =
    let p = c.args.system.now in
    let needs = c.needs-needs.result.now in
    let end : length needs ≤ c.loop-k.k = omega arith in
    let all : c.loop-k.living.items ≡ map (eligible_in p) p.needs =
    c.loop-k.invariant.living ∙ ap (λ ns. map (eligible_in p) (map numbered ns)) (take_all c.loop-k.k needs end)
    ∙ ap (map (eligible_in p)) c.needs-needs.ensures.needs in
    let copied : c.in_ok-standing.standing.items ≡ c.eligible.result.now = search rules in
    let stands : c.in_ok-standing.standing.items ≡ p.eligible = copied ∙ c.eligible.ensures.flags in
    rw (stands, c.in_ok-with_capacity.ensures.items) (search_start p c.loop-k.living.items
    c.in_ok-with_capacity.field-0.cap c.size-size.ensures.valid
    (omega (arith, c.in_ok-with_capacity.ensures.capacity, c.size-size.ensures.size)) all)

pub returns-clause-few : goal.returns-clause-few
returns-clause-few c =
    let p = c.args.system.now in
    let needs = c.needs-needs.result.now in
    let small : p.size < 2 ^ 63 = omega (arith, c.eligible.ensures.len, c.eligible.type_inv) in
    let same : length p.needs ≡ length needs = ap length (sym c.needs-needs.ensures.needs) ∙ length-map needs numbered
    in
    let short : length p.needs < 2 ^ 60 = omega (arith, same, c.needs-needs.type_inv) in
    pairs_few p c.size-size.ensures.valid small short
