-- The statements that write the rows of SYSMODs.
use Rattle.std.specs.Prelude.{List, [], ◌∷◌, ◌++◌, map}
use Rattle.std.specs.List.{flat_map}
use Rattle.terms.specs.Types.{Id, Sysmod}
use Rattle.store_rows.specs.Calls.{Call, puts}
use Rattle.store_schema.specs.Rows.{sysmod_row, sources_of, vers_of, ifreqs_of, elems_of, morevers_of, moreifs_of}
use Rattle.store_sysmods.specs.Elems.{insert_elem, insert_elems, delete_elems}
use Rattle.store_sysmods.specs.Heads.{insert_sysmod, insert_sysmods, delete_sysmod}
use Rattle.store_sysmods.specs.Ifs.{insert_ifreq, insert_ifreqs, delete_ifreqs}
use Rattle.store_sysmods.specs.MoreIfs.{insert_moreif, insert_moreifs, delete_moreifs}
use Rattle.store_sysmods.specs.MoreVers.{insert_morever, insert_morevers, delete_morevers}
use Rattle.store_sysmods.specs.Sources.{insert_source, insert_sources, delete_sources}
use Rattle.store_sysmods.specs.Sysmods.{sysmod_key}
use Rattle.store_sysmods.specs.Vers.{insert_ver, insert_vers, delete_vers}

-- their own rows, and those of their sources, first ++VERs and their ++IFs, element statements, and further ++VERs and
-- their ++IFs, table after table
abbrev pub insert_sysmods_calls : List Sysmod → List Call
insert_sysmods_calls ss =
    puts insert_sysmods insert_sysmod (map sysmod_row ss)
    ++ (puts insert_sources insert_source (flat_map sources_of ss)
    ++ (puts insert_vers insert_ver (flat_map vers_of ss)
    ++ (puts insert_ifreqs insert_ifreq (flat_map ifreqs_of ss)
    ++ (puts insert_elems insert_elem (flat_map elems_of ss)
    ++ (puts insert_morevers insert_morever (flat_map morevers_of ss)
    ++ puts insert_moreifs insert_moreif (flat_map moreifs_of ss))))))

-- the rows that refer to the SYSMOD, and its own one
abbrev pub remove_sysmod_calls : Id → List Call
remove_sysmod_calls id = map (λ text. (text, sysmod_key id)) (delete_vers ∷ delete_ifreqs ∷ delete_elems
    ∷ delete_sources ∷ delete_morevers ∷ delete_moreifs ∷ delete_sysmod ∷ [])

-- the rows of its sources
abbrev pub replace_sources_calls : Sysmod → List Call
replace_sources_calls s =
    (delete_sources, sysmod_key s.id) ∷ puts insert_sources insert_source (sources_of s)
