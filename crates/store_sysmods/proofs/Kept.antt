-- The columns of the tables keep the rows of any SYSMODs.
use Rattle.std.proofs.Common.{ℕ, List, map}
use Rattle.std.specs.List.{AllByRecursion, flat_map, enumerate_from}
use Rattle.sqlite.specs.Order.{Row}
use Rattle.sqlite.specs.Table.{Table}
use Rattle.terms.specs.Types.{Sysmod, Ver}
use Rattle.store_rows.specs.Texts.{SuitColumns}
use Rattle.store_schema.specs.Rows.{sysmod_row, source_row, sources_of, ver_row, vers_of, ifreq_row, ifreqs_of}
use Rattle.store_schema.specs.Rows.{elem_row, elems_of, morever_row, morevers_of, moreif_row, moreifs_of}
use Rattle.store_schema.specs.Rows.{first_vers, further_vers}
use Rattle.store_schema.specs.Tables.{sysmod, ver, ifreq, elem, source, morever, moreif}
use Rattle.store_sysmods.proofs.Partings.{all_map, all_flat}
use Rattle.store_sysmods.proofs.RowForms.{kept_sysmod, kept_source, kept_ver, kept_ifreq, kept_elem, kept_morever}
use Rattle.store_sysmods.proofs.RowForms.{kept_moreif}

abbrev pub AreKept : Table → List Row → Type 0
AreKept table = AllByRecursion (SuitColumns table.columns)

pub kept_sysmods : (ss : List Sysmod) → AreKept sysmod (map sysmod_row ss)
kept_sysmods = all_map (SuitColumns sysmod.columns) sysmod_row kept_sysmod

pub kept_sources_of : (s : Sysmod) → AreKept source (sources_of s)
kept_sources_of s = all_map (SuitColumns source.columns) (source_row s.id) (kept_source s.id) s.sources

pub kept_sources : (ss : List Sysmod) → AreKept source (flat_map sources_of ss)
kept_sources = all_flat (SuitColumns source.columns) sources_of kept_sources_of

pub kept_vers : (ss : List Sysmod) → AreKept ver (flat_map vers_of ss)
kept_vers = all_flat (SuitColumns ver.columns) vers_of
    (λ s. all_map (SuitColumns ver.columns) (λ (v : ℕ × Ver). ver_row s.id v.1) (λ v. kept_ver s.id v.1)
    (first_vers s))

pub kept_ifreqs : (ss : List Sysmod) → AreKept ifreq (flat_map ifreqs_of ss)
kept_ifreqs = all_flat (SuitColumns ifreq.columns) ifreqs_of
    (λ s. all_flat (SuitColumns ifreq.columns)
    (λ (v : ℕ × Ver). map (ifreq_row s.id v.1.srel) (enumerate_from 1 v.1.ifs))
    (λ v. all_map (SuitColumns ifreq.columns) (ifreq_row s.id v.1.srel) (kept_ifreq s.id v.1.srel)
    (enumerate_from 1 v.1.ifs)) (first_vers s))

pub kept_elems : (ss : List Sysmod) → AreKept elem (flat_map elems_of ss)
kept_elems = all_flat (SuitColumns elem.columns) elems_of
    (λ s. all_map (SuitColumns elem.columns) (elem_row s.id) (kept_elem s.id) s.changes)

pub kept_morevers : (ss : List Sysmod) → AreKept morever (flat_map morevers_of ss)
kept_morevers = all_flat (SuitColumns morever.columns) morevers_of
    (λ s. all_map (SuitColumns morever.columns) (morever_row s.id) (kept_morever s.id) (further_vers s))

pub kept_moreifs : (ss : List Sysmod) → AreKept moreif (flat_map moreifs_of ss)
kept_moreifs = all_flat (SuitColumns moreif.columns) moreifs_of
    (λ s. all_flat (SuitColumns moreif.columns)
    (λ (v : ℕ × Ver). map (moreif_row s.id v.1.srel v.0) (enumerate_from 1 v.1.ifs))
    (λ v. all_map (SuitColumns moreif.columns) (moreif_row s.id v.1.srel v.0) (kept_moreif s.id v.1.srel v.0)
    (enumerate_from 1 v.1.ifs)) (further_vers s))
