use Rattle.std.proofs.Common.{◌≡◌, List, ◌++◌, length}
use Rattle.store_sysmods.specs.declared.head.HeadRow.{HeadRow}
use Rattle.store_sysmod_loads.specs.Joined.{AreJoined}
use Rattle.store_sysmod_loads.proofs.joining.join_sources.Given as goal

-- what the rest gives, behind the heads so far, is what all gives
abbrev pub invariant-loop-head : goal.invariant-loop-head
invariant-loop-head l = record {
  told : (more : List HeadRow) → AreJoined l.bare.items l.sources.items more
      → AreJoined l.fn.bare.items l.fn.sources.items (l.heads.items ++ more);
  only : (others : List HeadRow) → AreJoined l.fn.bare.items l.fn.sources.items others
      → (more : List HeadRow) × (others ≡ l.heads.items ++ more) × AreJoined l.bare.items l.sources.items more;
}

abbrev pub decreases-loop-head : goal.decreases-loop-head
decreases-loop-head l = length l.bare.items
