use Rattle.std.proofs.Common.{◌≡◌, ◌≤◌, List, ◌++◌, [], length}
use Rattle.terms.specs.Types.{Ver}
use Rattle.store_schema.specs.Rows.{numbered_behind}
use Rattle.store_sysmods.specs.declared.ver.VerRow.{VerRow}
use Rattle.store_sysmods.specs.declared.ifreq.IfRow.{IfRow}
use Rattle.store_sysmod_loads.specs.Runs.{AreBare, ver_rows, HasAllIfs, HasVers, HasVersBehind}
use Rattle.store_sysmod_loads.proofs.gathering.take_vers.Given as goal

abbrev pub invariant-loop-row : goal.invariant-loop-row
invariant-loop-row l = record {
  bare : AreBare l.rows.items;
  most : length l.vers.items ≤ 8;
  told : l.fn.rows.items ≡ ver_rows l.id (numbered_behind [] l.vers.items) ++ l.rows.items;
  told_ifs : HasAllIfs l.id l.fn.ifs.items (numbered_behind [] l.vers.items) l.ifs.items;
  only : (others : List Ver) (rest : List VerRow) (more : List IfRow)
      → HasVers l.id l.fn.rows.items l.fn.ifs.items others rest more
      → (left : List Ver) × (others ≡ l.vers.items ++ left)
      × HasVersBehind l.vers.items l.id l.rows.items l.ifs.items left rest more;
}

abbrev pub decreases-loop-row : goal.decreases-loop-row
decreases-loop-row l = length l.rows.items
