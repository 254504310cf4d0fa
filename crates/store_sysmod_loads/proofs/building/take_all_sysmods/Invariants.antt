use Rattle.std.proofs.Common.{◌≡◌, List, ◌++◌, length}
use Rattle.terms.specs.Types.{Sysmod}
use Rattle.store_sysmod_loads.specs.Runs.{AreBare}
use Rattle.store_sysmod_loads.specs.Built.{AreTaken}
use Rattle.store_sysmod_loads.proofs.building.take_all_sysmods.Given as goal

-- what the rest gives, behind the SYSMODs so far, is what all gives
abbrev pub invariant-loop-head : goal.invariant-loop-head
invariant-loop-head l = record {
  bare : AreBare l.vers.items;
  told : (more : List Sysmod) → AreTaken l.heads.items more l.vers.items l.ifs.items l.elems.items
      → AreTaken l.fn.heads.items (l.sysmods.items ++ more) l.fn.vers.items l.fn.ifs.items l.fn.elems.items;
  only : (others : List Sysmod) → AreTaken l.fn.heads.items others l.fn.vers.items l.fn.ifs.items l.fn.elems.items
      → (more : List Sysmod) × (others ≡ l.sysmods.items ++ more)
      × AreTaken l.heads.items more l.vers.items l.ifs.items l.elems.items;
}

abbrev pub decreases-loop-head : goal.decreases-loop-head
decreases-loop-head l = length l.heads.items
