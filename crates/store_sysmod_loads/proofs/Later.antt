-- Heads under the schemas in which sources have a table of their own.
use Rattle.std.proofs.Common.{◌≢◌, List, map, IsPermutation, refl}
use Rattle.std.specs.List.{AllByRecursion, flat_map}
use Rattle.terms.specs.Types.{Sysmod}
use Rattle.store_rows.specs.Rows.{Contents}
use Rattle.store_schema.specs.declared.schema.Schema.{Schema}
use Rattle.store_schema.specs.declared.schema.Schema.TheVariants.{First, Second, Third}
use Rattle.store_schema.specs.Rows.{sysmod_row, sources_of}
use Rattle.store_schema.specs.Tables.{sysmod, source}
use Rattle.store_schema.proofs.WrittenLists.{ascending}
use Rattle.store_sysmods.specs.declared.head.HeadRow.{HeadRow}
use Rattle.store_sysmods.specs.Heads.{row_of_bare, HasHeadForms, HasFormsUnder}
use Rattle.store_sysmods.specs.Sources.{row_of_source}
use Rattle.store_sysmod_loads.specs.Joined.{bare_of, all_sources, AreJoined}
use Rattle.store_sysmod_loads.specs.Flats.{head_of, AreFormed, AreHeadRowsOf}
use Rattle.store_sysmod_loads.specs.Gathered.{HoldHeads}
use Rattle.store_sysmod_loads.proofs.FlatLemmas.{rows_of_heads, rows_of_bare, rows_of_sources}
use Rattle.store_sysmod_loads.proofs.JoinLemmas.{flat_joined, BelowHead}
use Rattle.store_sysmod_loads.proofs.RiseLemmas.{heads_rise}

pub later_rows : (r : Schema) → r ≢ First → (ss : List Sysmod) (contents : Contents) → AreHeadRowsOf r ss contents
    → IsPermutation (map sysmod_row ss) (contents sysmod.tree)
    × IsPermutation (flat_map sources_of ss) (contents source.tree)
later_rows First later ss contents h = absurd (later refl)
later_rows Second later ss contents h = h
later_rows Third later ss contents h = h

pub later_held : (r : Schema) → r ≢ First → (heads : List HeadRow) (contents : Contents)
    → IsPermutation (map row_of_bare (map bare_of heads)) (contents sysmod.tree)
    → IsPermutation (map row_of_source (all_sources heads)) (contents source.tree) → HoldHeads r heads contents
later_held First later heads contents p q = absurd (later refl)
later_held Second later heads contents p q = (p, q)
later_held Third later heads contents p q = (p, q)

pub later_formed : (r : Schema) → r ≢ First → (heads : List HeadRow) → AllByRecursion (HasFormsUnder r) heads
    → AllByRecursion HasHeadForms heads
later_formed First later heads h = absurd (later refl)
later_formed Second later heads h = h
later_formed Third later heads h = h

pub later_joined : (r : Schema) → r ≢ First → (ss : List Sysmod) → AreFormed r ss
    → AreJoined (map bare_of (map head_of ss)) (all_sources (map head_of ss)) (map head_of ss)
later_joined r later ss h = flat_joined (map head_of ss) (ascending BelowHead (map head_of ss) (heads_rise ss h.whole))
    (later_formed r later (map head_of ss) h.heads)

-- ---- under each

-- the rows are those of the heads
pub heads_held : (r : Schema) (ss : List Sysmod) (contents : Contents) → HoldHeads r (map head_of ss) contents
    → AreHeadRowsOf r ss contents
heads_held First ss contents h = rw (rows_of_heads ss) at h
heads_held Second ss contents h = (rw (rows_of_bare ss) at h.0, rw (rows_of_sources ss) at h.1)
heads_held Third ss contents h = (rw (rows_of_bare ss) at h.0, rw (rows_of_sources ss) at h.1)
