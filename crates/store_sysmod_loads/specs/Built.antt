-- A SYSMOD from its rows.
use Rattle.std.specs.Prelude.{◌≡◌, ◌≢◌, ◌≤◌, List, [], ◌∷◌, length, All, AllPairs}
use Rattle.terms.specs.declared.kinds.Kind.{Kind}
use Rattle.terms.specs.declared.kinds.Kind.TheVariants.{Function}
use Rattle.terms.specs.Types.{Ver, Action, Updates, Change, Sysmod}
use Rattle.terms.specs.Rising.{Rises}
use Rattle.terms.specs.Global.{change_cmp}
use Rattle.store_schema.specs.Forms.{VerSuitsKind, AreVersApart}
use Rattle.store_sysmods.specs.declared.head.HeadRow.{HeadRow}
use Rattle.store_sysmods.specs.declared.ver.VerRow.{VerRow}
use Rattle.store_sysmods.specs.declared.ifreq.IfRow.{IfRow}
use Rattle.store_sysmods.specs.declared.elem.ElemRow.{ElemRow}
use Rattle.store_sysmod_loads.specs.Runs.{HasVers, HasChanges}

-- no function has an update
abbrev pub MayDo : Kind → Action → Type 0
MayDo Function (Updates text) = ⊥
MayDo kind action = Unit {0}

-- What single rows of a SYSMOD do not show: it has one to eight ++VERs, which suit its kind and differ; its element
-- statements suit its kind and rise by type and name.
pub record IsBuilt (s : Sysmod) : Type 0 where
  pub some : s.vers ≢ []
  pub suits : All (VerSuitsKind s.kind) s.vers
  pub apart : AllPairs (AreVersApart s.kind) s.vers
  pub most : length s.vers ≤ 8
  pub does : All (λ c. MayDo s.kind c.action) s.changes
  pub changes : Rises change_cmp (λ c. c) s.changes

-- the SYSMOD of these parts
abbrev pub sysmod_from : HeadRow → List Ver → List Change → Sysmod
sysmod_from h vers changes = record {
  id = h.id;
  kind = h.kind;
  sources = h.sources;
  vers = vers;
  changes = changes;
  holds = [];
}

-- the tables begin with the rows of the SYSMOD, and the rows of another follow
pub record BeginsWithSysmod (h : HeadRow) (s : Sysmod) (vers : List VerRow) (ifs : List IfRow) (elems : List ElemRow)
    (vers' : List VerRow) (ifs' : List IfRow) (elems' : List ElemRow) : Type 0 where
  pub same : s ≡ sysmod_from h s.vers s.changes
  pub vers_are : HasVers h.id vers ifs s.vers vers' ifs'
  pub elems_are : HasChanges h.id elems s.changes elems'
  pub built : IsBuilt s

-- the tables hold the rows of these SYSMODs, one after the other, and no others
abbrev pub AreTaken : List HeadRow → List Sysmod → List VerRow → List IfRow → List ElemRow → Type 0
AreTaken [] [] vers ifs elems = (vers ≡ []) × (ifs ≡ []) × (elems ≡ [])
AreTaken [] (s ∷ sysmods) vers ifs elems = ⊥
AreTaken (h ∷ heads) [] vers ifs elems = ⊥
AreTaken (h ∷ heads) (s ∷ sysmods) vers ifs elems =
    (vers' : List VerRow) × (ifs' : List IfRow) × (elems' : List ElemRow)
    × BeginsWithSysmod h s vers ifs elems vers' ifs' elems'
    × AreTaken heads sysmods vers' ifs' elems'
