-- What the tables of a schema hold as a whole.
use Rattle.std.specs.Prelude.{List, map, Option, IsPermutation}
use Rattle.sqlite.specs.Store.{Ghosts}
use Rattle.sqlite.specs.Held.{Held, state}
use Rattle.std.specs.List.{AllByRecursion}
use Rattle.terms.specs.Types.{Text, Sysmod, Hold, Global, Zone, NamedZone}
use Rattle.terms.specs.Global.{IsGlobal}
use Rattle.store_rows.specs.Rows.{Contents, HasContents}
use Rattle.store_schema.specs.declared.schema.Schema.{Schema}
use Rattle.store_schema.specs.declared.schema.Schema.TheVariants.{Third}
use Rattle.store_schema.specs.Forms.{HasHoldForms}
use Rattle.store_schema.specs.Rows.{hold_row}
use Rattle.store_schema.specs.Tables.{hold, store_schema}
use Rattle.store_sysmod_loads.specs.Flats.{AreFormed, AreRowsOf}
use Rattle.store_zones.specs.declared.head.ZoneHead.{ZoneHead}
use Rattle.store_zones.specs.Found.{head_of}
use Rattle.store_zones.specs.Held.{HoldsZone, HoldsNumbers, HoldsHeads, HoldsUnder}

-- the rows of the SYSMODs and of the holds, which have their forms
pub record HoldsLists (schema : Schema) (contents : Contents) (sysmods : List Sysmod) (holds : List Hold) :
    Type 0 where
  pub sysmod_rows : AreRowsOf schema sysmods contents
  pub formed : AreFormed schema sysmods
  pub hold_rows : IsPermutation (map hold_row holds) (contents hold.tree)
  pub hold_forms : AllByRecursion HasHoldForms holds

-- and they are those of a global zone
pub record HoldsGlobal (schema : Schema) (contents : Contents) (global : Global) : Type 0 where
  pub lists : HoldsLists schema contents global.sysmods global.holds
  pub whole : IsGlobal global

-- The rows that a connection shows in the tables of SYSMODs and of holds are those of this global zone. Those of zones
-- may stand for nothing.
abbrev pub ShowsGlobal : {S : Type 0} → Ghosts S → Held S → Global → Type 0
ShowsGlobal g at global =
    (contents : Contents) → HasContents store_schema contents (state g at).now → HoldsGlobal Third contents global

-- Those that name a zone are the rows of this one, or there is no zone of the name. Others may stand for nothing.
abbrev pub ShowsZone : {S : Type 0} → Ghosts S → Held S → Text → Option Zone → Type 0
ShowsZone g at name zone =
    (contents : Contents) → HasContents store_schema contents (state g at).now → HoldsUnder Third contents name zone

-- Those in the table of zones are these. The rows of their entries and elements may stand for nothing.
abbrev pub ShowsHeads : {S : Type 0} → Ghosts S → Held S → List ZoneHead → Type 0
ShowsHeads g at heads =
    (contents : Contents) → HasContents store_schema contents (state g at).now → HoldsHeads contents heads

-- the rows of these zones, each of which has its forms and its numbers
pub record HoldsZones (schema : Schema) (contents : Contents) (zones : List NamedZone) : Type 0 where
  pub heads : HoldsHeads contents (map head_of zones)
  pub each : AllByRecursion (HoldsZone contents) zones
  pub numbers : AllByRecursion (HoldsNumbers schema contents) zones
