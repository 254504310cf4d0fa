-- What edits make of the tables if some SYSMODs still wait.
use Rattle.std.specs.Prelude.{◌≡◌, List, Result, OnOk}
use Rattle.sqlite.specs.Store.{Ghosts}
use Rattle.sqlite.specs.Effect.{Database}
use Rattle.sqlite.specs.Held.{Held}
use Rattle.sqlite.specs.declared.error.Error.{Error}
use Rattle.terms.specs.Types.{Sysmod, Global}
use Rattle.store_rows.specs.Calls.{RunsInside}
use Rattle.store_rows.specs.Inside.{Leads}
use Rattle.store_rows.specs.Rows.{HasContents}
use Rattle.store_schema.specs.Inventory.{Inventory}
use Rattle.store_schema.specs.Stands.{rows_of}
use Rattle.store_schema.specs.Tables.{store_schema}
use Rattle.store_sysmods.specs.declared.sysmod_rows.SysmodRows.{SysmodRows}
use Rattle.store_sysmods.specs.Sysmods.{AreNew, AreWaitingRows, with_sysmods}
use Rattle.store.specs.Calls.{Progress}

-- the inventory's rows, except those of SYSMODs that wait, which were added last
abbrev pub HoldsBut : List Sysmod → Inventory → Database → Type 0
HoldsBut ss i db =
    (global : Global) × AreNew ss global × (with_sysmods ss global ≡ i.global)
    × HasContents store_schema (rows_of (record i { global = global })) db

-- if the tables held an inventory's rows except some, and its global zone fits, they hold those of the inventory with
-- the new one, except those that wait then
abbrev pub ChangesBut : {S : Type 0} → Ghosts S → Held S → Held S → List Sysmod → List Sysmod → (Global → Type 0)
    → (Global → Global) → Type 0
ChangesBut g old new before after Fits make =
    (i : Inventory) → Fits i.global
    → Leads g old new (HoldsBut before i) (HoldsBut after (record i { global = make i.global }))

-- Some SYSMODs waited, these statements ran, these SYSMODs wait now, and the inventory has changed in this way.
pub record Waits {S : Type 0} (g : Ghosts S) (before : List Sysmod) (progress : Progress) (Fits : Global → Type 0)
    (make : Global → Global) (old new : Held S) (rows : SysmodRows) (result : Result (Unit {0}) Error) : Type 0 where
  pub runs : RunsInside g progress.0 old new result
  pub waits : OnOk result (AreWaitingRows rows progress.1)
  pub ok : OnOk result (ChangesBut g old new before progress.1 Fits make)
