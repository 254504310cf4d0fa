use Rattle.std.proofs.Common.{◌≡◌, ◌++◌, arith, length, take, drop}
use Rattle.std.proofs.lemmas.Grind.{common_steps}
use Rattle.solve.proofs.GreatestKept.{greatest_from_kept}
use Rattle.solve.specs.Marks.{AreLeads}
use Rattle.solve.proofs.Leads.{leads_small}
use Rattle.solve.proofs.CauserRows.{causers_add, causers_skip, causers_all, has_causer}
use Rattle.solve.proofs.causes.causers.Goals as goal
use Rattle.solve.proofs.causes.causers.Goals.{then-is_root+in_ok-affected+in_ok-add_to_rows, else-is_root}

pub search_backwards-requires-clause-rows : goal.search_backwards-requires-clause-rows
search_backwards-requires-clause-rows c =
    rw (c.deref-then-is_root.ensures.value) (leads_small c.args.system.now c.args.kept.now c.in_ok-leads.leads.items
    (rw c.flags-flags.ensures at c.in_ok-leads.ensures))

pub loop-candidate-preserved : goal.loop-candidate-preserved
loop-candidate-preserved c =
    let p = c.args.system.now in
    let kept = c.args.kept.now in
    let rows = c.loop-candidate.rows.items in
    let marks = c.loop-candidate.marks.items in
    let leads : AreLeads p kept c.in_ok-leads.leads.items = rw c.flags-flags.ensures at c.in_ok-leads.ensures in
    let root_iff = rw c.flags-flags.ensures at c.is_root.ensures in
    elim c.if-is_root.branch [
      | then-is_root+in_ok-affected+in_ok-add_to_rows w ↦
          let list = w.in_ok-affected.affected.items in
          let new = w.add_to_rows.new.rows in
          let cleared = w.search_backwards.new.marks in
          let whole_rows : take c.loop-candidate.rows.len (new ++ drop (length new) rows) ≡ new = grind (
            arith,
            common_steps,
          ) in
          let whole_marks : take c.loop-candidate.marks.len (cleared ++ drop (length cleared) marks) ≡ cleared =
          grind (arith, common_steps) in
          let added = rw (w.deref_mut-then-is_root.ensures.value, w.deref-then-is_root-2.ensures.value) at
          w.in_ok-add_to_rows.ensures in
          let reached = rw w.deref-then-is_root.ensures.value at w.in_ok-affected.ensures.exact in
          rw (w.rows-is, w.marks-is, whole_rows, whole_marks) (record {
            rows = causers_add p kept rows new list c.loop-candidate.candidate (root_iff.0 w.if-is_root.true)
                (omega (arith, w.add_to_rows.auto.rows, w.deref_mut-then-is_root.ensures.len))
                w.in_ok-affected.ensures.once (reached p kept leads) added c.loop-candidate.invariant.rows;
            size = omega (
              arith,
              w.search_backwards.auto.marks,
              w.deref_mut.ensures.len,
              c.loop-candidate.invariant.size,
            );
            clear = w.in_ok-affected.ensures.clear;
          })
      | else-is_root w ↦ rw (w.rows-is, w.marks-is) (record {
        rows = causers_skip p kept rows c.loop-candidate.candidate (λ root. cc (root_iff.1 root, w.if-is_root.false))
            c.loop-candidate.invariant.rows;
        size = c.loop-candidate.invariant.size;
        clear = c.loop-candidate.invariant.clear;
      })
    ]

pub returns-clause-exact : goal.returns-clause-exact
returns-clause-exact c _ =
    let at_end : c.loop-candidate.candidate ≡ c.args.system.now.size = omega arith in
    causers_all c.args.system.now c.args.kept.now c.loop-candidate.rows.items (rw at_end
    at c.loop-candidate.invariant.rows)

pub returns-clause-some : goal.returns-clause-some
returns-clause-some c kept =
    has_causer c.args.system.now c.args.kept.now c.loop-candidate.rows.items c.size.ensures.valid (returns-clause-exact
    c kept.size)
    (greatest_from_kept c.args.system.now c.args.kept.now kept)
