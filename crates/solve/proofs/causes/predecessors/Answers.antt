use Rattle.std.proofs.Common.{◌≡◌, ◌≤◌, ◌<◌, ◌+◌, ◌++◌, ◌∷◌, [], List, ◌∙◌, sym, ap, subst, take, drop, length, map}
use Rattle.std.proofs.Common.{take_all, arith}
use Rattle.std.proofs.lemmas.List.{map_more}
use Rattle.std.proofs.lemmas.Grind.{common_steps}
use Rattle.solve.specs.System.{Need, holds}
use Rattle.solve.specs.NeedView.{numbered}
use Rattle.solve.proofs.PassingElements.{clash}
use Rattle.solve.proofs.Leads.{AreLeadsBy, leads_skip, leads_add}
use Rattle.solve.proofs.causes.predecessors.Goals as goal
use Rattle.solve.proofs.causes.predecessors.Goals.{then-not-kept-need+then-not-contains_any+in_ok-add_to_rows}
use Rattle.solve.proofs.causes.predecessors.Goals.{else-not-kept-need}
use Rattle.solve.proofs.causes.predecessors.Goals.{else-not-kept-need-via-then-not-kept-need+else-not-contains_any}
use Rattle.solve.proofs.causes.predecessors.Goals.{else-not-kept-need-via-else-not-kept-need}

pub loop-need-preserved : goal.loop-need-preserved
loop-need-preserved c =
    let p = c.args.system.now in
    let kept = c.args.kept.now in
    let needs = c.needs-need-items.result.now in
    let i = c.loop-need.need-index in
    let n = c.need-item.result in
    let rows = c.loop-need.leads.items in
    let seen : List Need = map numbered (take i needs) in
    let valid = c.needs-need-items.ensures.valid i n c.loop-need-test.true in
    let in_size : n.of < p.size = rw (← c.need-item.is) at valid.of in
    let more : map numbered (take (i + 1) needs) ≡ seen ++ numbered n ∷ [] =
    map_more numbered needs i n c.loop-need-test.true ∙ ap (λ m. seen ++ numbered m ∷ []) (sym c.need-item.is) in
    elim c.if-not-kept-need.branch [
      | then-not-kept-need+then-not-contains_any+in_ok-add_to_rows w ↦
          let new = w.add_to_rows.new.rows in
          let whole : take c.loop-need.leads.len (new ++ drop (length new) rows) ≡ new = grind (arith, common_steps) in
          rw (w.leads-is, whole) (record {
            size = omega (arith, w.add_to_rows.auto.rows, w.deref_mut.ensures.len, c.loop-need.invariant.size);
            exact = subst (λ ds. AreLeadsBy p kept ds new) (sym more) (leads_add p kept seen (numbered n) rows new
                (in_size, w.if-not-kept-need.true)
                (rw w.deref.ensures.value at (w.contains_any.ensures.none w.if-not-contains_any.true))
                (rw (w.deref_mut.ensures.value, w.deref-then-not-contains_any.ensures.value)
                at w.in_ok-add_to_rows.ensures)
                c.loop-need.invariant.exact);
          })
      | else-not-kept-need w ↦ rw w.leads-is (record {
        size = c.loop-need.invariant.size;
        exact = subst (λ ds. AreLeadsBy p kept ds rows) (sym more) (leads_skip p kept seen (numbered n) rows
            (elim w.else-not-kept-need.branch [
              | else-not-kept-need-via-then-not-kept-need+else-not-contains_any v ↦ λ _ unmet.
                  clash (holds kept) n.any.items (rw v.deref.ensures.value at
                  (v.contains_any.ensures.some v.if-not-contains_any.false)) unmet
              | else-not-kept-need-via-else-not-kept-need v ↦ λ failed _. cc (failed.1, v.if-not-kept-need.false)
            ])
            c.loop-need.invariant.exact);
      })
    ]

pub returns : goal.returns
returns c =
    let needs = c.needs-need-items.result.now in
    let end : length needs ≤ c.loop-need.need-index = omega arith in
    let all : map numbered (take c.loop-need.need-index needs) ≡ c.args.system.now.needs =
    ap (map numbered) (take_all c.loop-need.need-index needs end) ∙ c.needs-need-items.ensures.needs in
    record {
      size = c.loop-need.invariant.size;
      exact = subst (λ ds. AreLeadsBy c.args.system.now c.args.kept.now ds c.loop-need.leads.items) all
          c.loop-need.invariant.exact;
    }
