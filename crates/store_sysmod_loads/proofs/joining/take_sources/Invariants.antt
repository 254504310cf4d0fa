use Rattle.std.proofs.Common.{◌≡◌, List, ◌++◌, length}
use Rattle.terms.specs.Types.{Text}
use Rattle.terms.specs.Lookups.{IsRising}
use Rattle.store_sysmods.specs.declared.source.SourceRow.{SourceRow}
use Rattle.store_sysmod_loads.specs.Runs.{source_rows}
use Rattle.store_sysmod_loads.proofs.RunLemmas.{AreNamed}
use Rattle.store_sysmod_loads.proofs.joining.take_sources.Given as goal

abbrev pub invariant-loop-row : goal.invariant-loop-row
invariant-loop-row l = record {
  told : l.fn.rows.items ≡ source_rows l.id l.names ++ l.rows.items;
  rising : IsRising l.names;
  only : (others : List Text) (rest : List SourceRow) → AreNamed l.id l.fn.rows.items others rest
      → (more : List Text) × (others ≡ l.names ++ more) × AreNamed l.id l.rows.items more rest;
}

abbrev pub decreases-loop-row : goal.decreases-loop-row
decreases-loop-row l = length l.rows.items
