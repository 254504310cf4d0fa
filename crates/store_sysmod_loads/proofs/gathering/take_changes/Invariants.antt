use Rattle.std.proofs.Common.{◌≡◌, List, ◌++◌, length}
use Rattle.terms.specs.Types.{Change}
use Rattle.store_sysmods.specs.declared.elem.ElemRow.{ElemRow}
use Rattle.store_sysmod_loads.specs.Runs.{elem_rows, HasChanges}
use Rattle.store_sysmod_loads.proofs.gathering.take_changes.Given as goal

abbrev pub invariant-loop-row : goal.invariant-loop-row
invariant-loop-row l = record {
  told : l.fn.rows.items ≡ elem_rows l.id l.changes.items ++ l.rows.items;
  only : (others : List Change) (rest : List ElemRow) → HasChanges l.id l.fn.rows.items others rest
      → (more : List Change) × (others ≡ l.changes.items ++ more) × HasChanges l.id l.rows.items more rest;
}

abbrev pub decreases-loop-row : goal.decreases-loop-row
decreases-loop-row l = length l.rows.items
