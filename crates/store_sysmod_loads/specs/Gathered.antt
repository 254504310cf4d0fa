-- All rows of SYSMODs that have been read.
use Rattle.std.specs.Prelude.{◌≡◌, not, List, [], map, filter, IsPermutation}
use Rattle.std.specs.List.{AllByRecursion}
use Rattle.terms.specs.Types.{Sysmod}
use Rattle.store_rows.specs.Rows.{Contents}
use Rattle.store_schema.specs.Tables.{sysmod, source, ver, ifreq, elem, morever, moreif}
use Rattle.store_schema.specs.declared.schema.Schema.{Schema}
use Rattle.store_schema.specs.declared.schema.Schema.TheVariants.{First, Third}
use Rattle.store_sysmods.specs.declared.head.HeadRow.{HeadRow}
use Rattle.store_sysmods.specs.declared.ver.VerRow.{VerRow}
use Rattle.store_sysmods.specs.declared.ifreq.IfRow.{IfRow}
use Rattle.store_sysmod_loads.specs.declared.rows_of.FlatRows.{FlatRows}
use Rattle.store_sysmods.specs.Heads.{row_of_head, row_of_bare, HasFormsUnder}
use Rattle.store_sysmods.specs.Sources.{row_of_source}
use Rattle.store_sysmods.specs.Vers.{row_of_ver, is_first_row, HasVerRowForms}
use Rattle.store_sysmods.specs.Ifs.{row_of_if, is_first_if, HasIfRowForms}
use Rattle.store_sysmods.specs.Elems.{row_of_elem, HasElemRowForms}
use Rattle.store_sysmods.specs.MoreVers.{row_of_more_ver}
use Rattle.store_sysmods.specs.MoreIfs.{row_of_more_if}
use Rattle.store_sysmod_loads.specs.Joined.{bare_of, all_sources}
use Rattle.store_sysmod_loads.specs.Flats.{head_of, all_vers, all_ifs, all_elems, AreWhole}

-- the tables hold the heads, with their sources or separate from them, and no others
abbrev pub HoldHeads : Schema → List HeadRow → Contents → Type 0
HoldHeads First heads contents = IsPermutation (map row_of_head heads) (contents sysmod.tree)
HoldHeads _ heads contents = IsPermutation (map row_of_bare (map bare_of heads)) (contents sysmod.tree)
    × IsPermutation (map row_of_source (all_sources heads)) (contents source.tree)

-- the tables hold the rows of further ++VERs if they exist, and otherwise there are none
abbrev pub HoldMoreVers : Schema → List VerRow → Contents → Type 0
HoldMoreVers Third rows contents = IsPermutation (map row_of_more_ver rows) (contents morever.tree)
HoldMoreVers _ rows contents = rows ≡ []

abbrev pub HoldMoreIfs : Schema → List IfRow → Contents → Type 0
HoldMoreIfs Third rows contents = IsPermutation (map row_of_more_if rows) (contents moreif.tree)
HoldMoreIfs _ rows contents = rows ≡ []

-- the tables hold the rows of all ++VERs, first and further ones
pub record HoldVers (schema : Schema) (rows : List VerRow) (contents : Contents) : Type 0 where
  pub firsts : IsPermutation (map row_of_ver (filter is_first_row rows)) (contents ver.tree)
  pub more : HoldMoreVers schema (filter (λ r. not (is_first_row r)) rows) contents

pub record HoldIfs (schema : Schema) (rows : List IfRow) (contents : Contents) : Type 0 where
  pub firsts : IsPermutation (map row_of_if (filter is_first_if rows)) (contents ifreq.tree)
  pub more : HoldMoreIfs schema (filter (λ r. not (is_first_if r)) rows) contents

-- the tables hold all rows, and no others
pub record HoldRows (schema : Schema) (rows : FlatRows) (contents : Contents) : Type 0 where
  pub heads : HoldHeads schema rows.heads.items contents
  pub vers : HoldVers schema rows.vers.items contents
  pub ifs : HoldIfs schema rows.ifs.items contents
  pub elems : IsPermutation (map row_of_elem rows.elems.items) (contents elem.tree)

pub record HaveForms (schema : Schema) (rows : FlatRows) : Type 0 where
  pub heads : AllByRecursion (HasFormsUnder schema) rows.heads.items
  pub vers : AllByRecursion HasVerRowForms rows.vers.items
  pub ifs : AllByRecursion HasIfRowForms rows.ifs.items
  pub elems : AllByRecursion HasElemRowForms rows.elems.items

-- they are the rows of the SYSMODs
pub record HasRows (rows : FlatRows) (sysmods : List Sysmod) : Type 0 where
  pub heads : rows.heads.items ≡ map head_of sysmods
  pub vers : rows.vers.items ≡ all_vers sysmods
  pub ifs : rows.ifs.items ≡ all_ifs sysmods
  pub elems : rows.elems.items ≡ all_elems sysmods

pub record IsGathered (rows : FlatRows) (sysmods : List Sysmod) : Type 0 where
  pub rows_are : HasRows rows sysmods
  pub whole : AreWhole sysmods
