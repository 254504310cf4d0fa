-- How the rows of a SYSMOD change the tables, and the inventory for which the tables stand.
use Rattle.std.specs.Prelude.{◌≡◌, false, List, [], ◌∷◌, All, fold, map}
use Rattle.std.specs.List.{flat_map}
use Rattle.sqlite.specs.declared.types.Value.TheVariants as value
use Rattle.sqlite.specs.Order.{Row}
use Rattle.sqlite.specs.Store.{Ghosts}
use Rattle.sqlite.specs.Held.{Held}
use Rattle.sqlite.specs.Table.{Table}
use Rattle.terms.specs.Types.{Text, Id, Sysmod, Global}
use Rattle.terms.specs.Global.{with_sysmod}
use Rattle.terms.specs.Lookups.{is_received}
use Rattle.sysmods_values.specs.Edited.{with_sources, less_sysmod}
use Rattle.store_rows.specs.Inside.{Leads}
use Rattle.store_rows.specs.Rows.{Contents, HasContents, as_bound, in_table, with_rows, without}
use Rattle.store_schema.specs.Inventory.{Inventory}
use Rattle.store_schema.specs.Rows.{sysmod_row, sources_of, vers_of, ifreqs_of, elems_of, morevers_of, moreifs_of}
use Rattle.store_schema.specs.Stands.{rows_of}
use Rattle.store_schema.specs.Tables.{sysmod, ver, ifreq, elem, source, morever, moreif, store_schema}
use Rattle.store_sysmods.specs.declared.sysmod_rows.SysmodRows.{SysmodRows}

-- the SYSMOD, from these sources
abbrev pub sourced : Sysmod → List Text → Sysmod
sourced s sources = record s { sources = sources }

-- Rows that wait to be written: those of these SYSMODs, table after table.
pub record AreWaitingRows (rows : SysmodRows) (ss : List Sysmod) : Type 0 where
  pub sysmods : map as_bound rows.sysmods.items ≡ map sysmod_row ss
  pub sources : map as_bound rows.sources.items ≡ flat_map sources_of ss
  pub vers : map as_bound rows.vers.items ≡ flat_map vers_of ss
  pub ifreqs : map as_bound rows.ifreqs.items ≡ flat_map ifreqs_of ss
  pub elems : map as_bound rows.elems.items ≡ flat_map elems_of ss
  pub morevers : map as_bound rows.morevers.items ≡ flat_map morevers_of ss
  pub moreifs : map as_bound rows.moreifs.items ≡ flat_map moreifs_of ss

-- the tables hold the rows of these SYSMODs besides
abbrev pub with_sysmods_rows : List Sysmod → Contents → Contents
with_sysmods_rows ss contents =
    in_table moreif (with_rows (flat_map moreifs_of ss)) (in_table morever (with_rows (flat_map morevers_of ss))
    (in_table elem (with_rows (flat_map elems_of ss)) (in_table ifreq (with_rows (flat_map ifreqs_of ss))
    (in_table ver (with_rows (flat_map vers_of ss)) (in_table source (with_rows (flat_map sources_of ss))
    (in_table sysmod (with_rows (map sysmod_row ss)) contents))))))

-- the first column of the SYSMOD's rows
abbrev pub sysmod_key : Id → Row
sysmod_key id = value.Text id ∷ []

-- The rows of the SYSMOD's sources replace those that the table holds.
abbrev pub with_source_rows : Sysmod → Contents → Contents
with_source_rows s contents =
    in_table source (with_rows (sources_of s)) (in_table source (without (sysmod_key s.id)) contents)

-- the tables that refer to the one of SYSMODs
abbrev pub sysmod_children : List Table
sysmod_children = ver ∷ ifreq ∷ elem ∷ source ∷ morever ∷ moreif ∷ []

-- these tables hold no rows of the SYSMOD
abbrev pub without_rows : List Table → Id → Contents → Contents
without_rows [] id contents = contents
without_rows (t ∷ tables) id contents = without_rows tables id (in_table t (without (sysmod_key id)) contents)

-- no table holds rows of the SYSMOD
abbrev pub without_sysmod_rows : Id → Contents → Contents
without_sysmod_rows id contents = in_table sysmod (without (sysmod_key id)) (without_rows sysmod_children id contents)

-- if the tables held an inventory's rows, and its global zone fits, they hold those of the inventory with the new one
abbrev pub ChangesGlobal : {S : Type 0} → Ghosts S → Held S → Held S → (Global → Type 0) → (Global → Global) → Type 0
ChangesGlobal g old new Fits make =
    (i : Inventory) → Fits i.global → Leads g old new (HasContents store_schema (rows_of i))
    (HasContents store_schema (rows_of (record i { global = make i.global })))

-- SYSMODs that are added to the global zone, one after the other
abbrev pub with_sysmods : List Sysmod → Global → Global
with_sysmods ss global = fold with_sysmod global ss

-- none of them is received before it is added
abbrev pub AreNew : List Sysmod → Global → Type 0
AreNew [] global = Unit {0}
AreNew (s ∷ ss) global = (is_received global s.id ≡ false) × AreNew ss (with_sysmod global s)

-- SYSMODs that are not received take their places among the others. Their holds are not yet among those of the global
-- zone.
abbrev pub AddsSysmods : {S : Type 0} → Ghosts S → Held S → Held S → List Sysmod → Type 0
AddsSysmods g old new ss = ChangesGlobal g old new (AreNew ss) (with_sysmods ss)

-- The SYSMOD's sources replace those that it had.
abbrev pub ReplacesSources : {S : Type 0} → Ghosts S → Held S → Held S → Sysmod → Type 0
ReplacesSources g old new s = ChangesGlobal g old new (λ global.
    All (λ r. r.id ≡ s.id → r.kind ≡ s.kind) global.sysmods) (with_sources s.id s.sources)

-- The SYSMOD goes, but all holds stay.
abbrev pub RemovesSysmod : {S : Type 0} → Ghosts S → Held S → Held S → Id → Type 0
RemovesSysmod g old new id = ChangesGlobal g old new (λ global. Unit {0}) (less_sysmod id)
