-- Heads of SYSMODs, whose sources are in a table of their own.
use Rattle.std.specs.Prelude.{◌≡◌, List, [], ◌∷◌}
use Rattle.std.specs.List.{flat_map}
use Rattle.store_sysmods.specs.declared.head.HeadRow.{HeadRow}
use Rattle.store_sysmods.specs.declared.head.BareHead.{BareHead}
use Rattle.store_sysmods.specs.declared.source.SourceRow.{SourceRow}
use Rattle.store_sysmod_loads.specs.Runs.{source_rows, HasSources}

abbrev pub bare_of : HeadRow → BareHead
bare_of h = record { id = h.id; kind = h.kind }

abbrev pub all_sources : List HeadRow → List SourceRow
all_sources heads = flat_map (λ h. source_rows h.id h.sources) heads

-- the tables hold these heads and their sources, one after the other, and no others
abbrev pub AreJoined : List BareHead → List SourceRow → List HeadRow → Type 0
AreJoined [] sources [] = sources ≡ []
AreJoined [] sources (h ∷ heads) = ⊥
AreJoined (b ∷ bare) sources [] = ⊥
AreJoined (b ∷ bare) sources (h ∷ heads) =
    (rest : List SourceRow) × (b ≡ bare_of h) × HasSources b.id sources h.sources rest × AreJoined bare rest heads
