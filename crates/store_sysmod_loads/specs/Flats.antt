-- The rows of SYSMODs, table by table, in the order of the SYSMODs.
use Rattle.std.specs.Prelude.{◌≡◌, ℕ, List, [], map, All, IsPermutation}
use Rattle.std.specs.List.{AllByRecursion, flat_map}
use Rattle.std.specs.Ordering.{nat_cmp}
use Rattle.std.specs.Cmp.Lexicographic.{slice_cmp}
use Rattle.terms.specs.Types.{Id, Ver, Sysmod}
use Rattle.terms.specs.Lookups.{IsRising}
use Rattle.terms.specs.Rising.{Rises}
use Rattle.store_rows.specs.Rows.{Contents}
use Rattle.store_schema.specs.Rows.{sysmod_row, sources_of, vers_of, ifreqs_of, elems_of, morevers_of, moreifs_of}
use Rattle.store_schema.specs.Rows.{numbered_behind}
use Rattle.store_schema.specs.Earlier.{first_sysmod_row}
use Rattle.store_schema.specs.Tables.{sysmod, source, ver, ifreq, elem, morever, moreif}
use Rattle.store_schema.specs.declared.schema.Schema.{Schema}
use Rattle.store_schema.specs.declared.schema.Schema.TheVariants.{First, Third}
use Rattle.store_sysmods.specs.declared.head.HeadRow.{HeadRow}
use Rattle.store_sysmods.specs.declared.ver.VerRow.{VerRow}
use Rattle.store_sysmods.specs.declared.ifreq.IfRow.{IfRow}
use Rattle.store_sysmods.specs.declared.elem.ElemRow.{ElemRow}
use Rattle.store_sysmods.specs.Heads.{HasFormsUnder}
use Rattle.store_sysmods.specs.Vers.{HasVerRowForms}
use Rattle.store_sysmods.specs.Ifs.{HasIfRowForms}
use Rattle.store_sysmods.specs.Elems.{HasElemRowForms}
use Rattle.store_sysmod_loads.specs.Runs.{if_rows, ver_rows, elem_rows}
use Rattle.store_sysmod_loads.specs.Built.{IsBuilt}

abbrev pub head_of : Sysmod → HeadRow
head_of s = record { id = s.id; kind = s.kind; sources = s.sources }

-- of ++VERs with their numbers
abbrev pub ifs_of : Id → List (ℕ × Ver) → List IfRow
ifs_of x vers = flat_map (λ v. if_rows x v.1.srel v.0 1 v.1.ifs) vers

abbrev pub all_vers : List Sysmod → List VerRow
all_vers sysmods = flat_map (λ s. ver_rows s.id (numbered_behind [] s.vers)) sysmods

abbrev pub all_ifs : List Sysmod → List IfRow
all_ifs sysmods = flat_map (λ s. ifs_of s.id (numbered_behind [] s.vers)) sysmods

abbrev pub all_elems : List Sysmod → List ElemRow
all_elems sysmods = flat_map (λ s. elem_rows s.id s.changes) sysmods

-- The properties of the list of SYSMODs. They rise by their ids.
pub record AreWhole (sysmods : List Sysmod) : Type 0 where
  pub built : AllByRecursion IsBuilt sysmods
  pub ids : Rises (slice_cmp nat_cmp) (λ s. s.id) sysmods
  pub none_carried : AllByRecursion (λ s. s.holds ≡ []) sysmods

-- The SYSMODs have the forms that their rows show under the schema, and those that only a whole SYSMOD shows.
pub record AreFormed (schema : Schema) (sysmods : List Sysmod) : Type 0 where
  pub heads : AllByRecursion (HasFormsUnder schema) (map head_of sysmods)
  pub vers : AllByRecursion HasVerRowForms (all_vers sysmods)
  pub ifs : AllByRecursion HasIfRowForms (all_ifs sysmods)
  pub elems : AllByRecursion HasElemRowForms (all_elems sysmods)
  pub whole : AreWhole sysmods

-- The rows of SYSMODs without their statements: under schema 1 each row has the sources, later the sources have a table
-- of their own.
abbrev pub AreHeadRowsOf : Schema → List Sysmod → Contents → Type 0
AreHeadRowsOf First sysmods contents = IsPermutation (map first_sysmod_row sysmods) (contents sysmod.tree)
AreHeadRowsOf _ sysmods contents = IsPermutation (map sysmod_row sysmods) (contents sysmod.tree)
    × IsPermutation (flat_map sources_of sysmods) (contents source.tree)

-- Under schema 3 there are tables of further ++VERs for one SREL. Under earlier schemas no SYSMOD has two.
abbrev pub AreMoreRowsOf : Schema → List Sysmod → Contents → Type 0
AreMoreRowsOf Third sysmods contents = IsPermutation (flat_map morevers_of sysmods) (contents morever.tree)
    × IsPermutation (flat_map moreifs_of sysmods) (contents moreif.tree)
AreMoreRowsOf _ sysmods contents = All (λ s. IsRising (map (λ v. v.srel) s.vers)) sysmods

-- the tables hold the rows of the SYSMODs, in any order, and no others
pub record AreRowsOf (schema : Schema) (sysmods : List Sysmod) (contents : Contents) : Type 0 where
  pub heads : AreHeadRowsOf schema sysmods contents
  pub vers : IsPermutation (flat_map vers_of sysmods) (contents ver.tree)
  pub ifs : IsPermutation (flat_map ifreqs_of sysmods) (contents ifreq.tree)
  pub elems : IsPermutation (flat_map elems_of sysmods) (contents elem.tree)
  pub more : AreMoreRowsOf schema sysmods contents
