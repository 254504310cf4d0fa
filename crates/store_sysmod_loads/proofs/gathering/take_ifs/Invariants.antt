use Rattle.std.proofs.Common.{◌≡◌, ◌+◌, List, ◌++◌, length}
use Rattle.terms.specs.Types.{IfReq}
use Rattle.store_sysmods.specs.declared.ifreq.IfRow.{IfRow}
use Rattle.store_sysmod_loads.specs.Runs.{if_rows, HasIfs}
use Rattle.store_sysmod_loads.proofs.gathering.take_ifs.Given as goal

abbrev pub invariant-loop-row : goal.invariant-loop-row
invariant-loop-row l = record {
  told : l.fn.rows.items ≡ if_rows l.id l.srel l.place 1 l.ifs.items ++ l.rows.items;
  only : (others : List IfReq) (rest : List IfRow) → HasIfs l.id l.srel l.place 1 l.fn.rows.items others rest
      → (more : List IfReq) × (others ≡ l.ifs.items ++ more)
      × HasIfs l.id l.srel l.place (length l.ifs.items + 1) l.rows.items more rest;
}

abbrev pub decreases-loop-row : goal.decreases-loop-row
decreases-loop-row l = length l.rows.items
