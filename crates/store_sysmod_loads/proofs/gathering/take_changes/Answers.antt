use Rattle.std.proofs.Common.{◌≡◌, ◌++◌, ◌∷◌, [], List, append-nil, sym, ap, subst, ◌∙◌}
use Rattle.terms.specs.Types.{Change}
use Rattle.store_sysmods.specs.declared.elem.ElemRow.{ElemRow}
use Rattle.store_sysmod_loads.specs.Runs.{HasChanges}
use Rattle.store_sysmod_loads.proofs.RunLemmas.{changes_told, changes_step, changes_end, next_left}
use Rattle.store_sysmod_loads.proofs.gathering.take_changes.Goals as goal

pub loop-row-preserved : goal.loop-row-preserved
loop-row-preserved c =
    let x = c.args.id in
    let changes = c.loop-row.changes.items in
    let row = c.in-Some.row in
    let new = c.pop_row_of.new.rows.items in
    let grown : c.push.new.self.items ≡ c.loop-row.changes.items ++ c.in-Some.row.change ∷ [] =
    c.in_ok-push.ensures.items in
    record {
      told = rw grown (changes_told x c.args.rows.now.items changes row c.loop-row.rows.items new
          c.loop-row.invariant.told c.in-Some.ensures.some.0 c.in-Some.ensures.some.1);
      only = λ others rest h.
          let it = c.loop-row.invariant.only others rest h in
          let there = subst (λ (rows : List ElemRow). HasChanges x rows it.0 rest) c.in-Some.ensures.some.0 it.2 in
          let step = changes_step x row new it.0 rest c.in-Some.ensures.some.1 there in (
            step.0,
            next_left others changes row.change it.0 step.0 it.1 step.1
                ∙ ap (λ (xs : List Change). xs ++ step.0) (sym grown),
            step.2,
          );
    }

pub returns-clause-only : goal.returns-clause-only
returns-clause-only c others rest h =
    let it = c.loop-row.invariant.only others rest h in
    let last = changes_end c.args.id c.loop-row.rows.items it.0 rest c.in_default.ensures.none.1 it.2 in (
      it.1 ∙ ap (λ (xs : List Change). c.loop-row.changes.items ++ xs) last.0
          ∙ append-nil c.loop-row.changes.items ∙ sym c.shrink_to_fit.ensures.items,
      last.1 ∙ sym c.in_default.ensures.none.0,
    )
