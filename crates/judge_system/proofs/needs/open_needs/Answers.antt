use Rattle.std.proofs.Common.{◌≡◌, ◌++◌, ◌∙◌, Some, refl, sym, ap, subst, take, drop, length, arith, map, slice_get}
use Rattle.std.specs.Option.{option_map}
use Rattle.std.proofs.lemmas.Grind.{common_steps}
use Rattle.std.proofs.lemmas.List.{length-map}
use Rattle.std.proofs.lemmas.Option.{slice_get_read, slice_get-map}
use Rattle.solve.specs.NeedView.{numbered}
use Rattle.judge_system.specs.Numbered.{need_of}
use Rattle.judge_system.specs.Open.{HaveOpen}
use Rattle.judge_system.proofs.Opened.{open_next}
use Rattle.judge_system.proofs.needs.open_needs.Goals as goal

pub loop-i-preserved : goal.loop-i-preserved
loop-i-preserved c =
    let needs = c.args.system.now.needs in
    let stated = c.args.stated.now in
    let given = c.needs-needs.result.now in
    let i = c.loop-i.i in
    let n = c.index-needs-i.result in
    let rows = c.loop-i.rows.items in
    let new = c.push_unless_served.new.rows in
    let own = c.needs-needs.ensures.needs in
    let many : length given ≡ length stated = omega (
      arith,
      sym (length-map given numbered),
      ap length own,
      c.requires.stated,
    ) in
    let whole : take c.loop-i.rows.len (new ++ drop (length new) rows) ≡ new = grind (arith, common_steps) in
    let at_need : slice_get given i ≡ Some n = slice_get_read given (length given) i n refl (omega arith)
    c.index-needs-i.is in
    let at_d : slice_get needs i ≡ Some (numbered n) = ap (λ l. slice_get l i) (sym own)
    ∙ slice_get-map numbered given i
    ∙ ap (option_map numbered) at_need in
    let at_meant = slice_get-map need_of stated i ∙ ap (option_map need_of) c.item_at-need.ensures in
    rw whole (record {
      size = omega (arith, c.push_unless_served.auto.rows, c.deref_mut.ensures.len, c.loop-i.invariant.size);
      unserved = open_next c.args.kept.now needs (map need_of stated) i (numbered n)
          (need_of c.item_at-need.result) rows new at_d at_meant
          (rw c.deref_mut.ensures.value at c.in_ok-push_unless_served.ensures) c.loop-i.invariant.unserved;
    })

pub returns-clause-unserved : goal.returns-clause-unserved
returns-clause-unserved c =
    let given = c.needs-needs.result.now in
    let own = c.needs-needs.ensures.needs in
    let end : c.loop-i.i ≡ length c.args.stated.now = omega (
      arith,
      sym (length-map given numbered),
      ap length own,
      c.requires.stated,
    ) in
    subst (λ e. HaveOpen c.args.kept.now c.args.system.now.needs (map need_of c.args.stated.now) e c.loop-i.rows.items)
    end
    c.loop-i.invariant.unserved
