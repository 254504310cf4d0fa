-- What the status of an answer says of the stream that the files carry.
use Rattle.std.specs.Prelude.{◌≡◌, ◌⊎◌, ◌<◌, ℕ, true, List, [], ◌∷◌, Ok, length}
use Rattle.terms.specs.Types.{Srel, Global, a_global}
use Rattle.terms.specs.Global.{Receives}
use Rattle.terms.specs.Stream.{IsClean, ver_for}
use Rattle.mcs.specs.declared.file.Item.{Item}
use Rattle.mcs.specs.declared.file.Item.TheVariants.{Sysmod, Assign}
use Rattle.mcs.specs.declared.hold_item.HoldItem.{HoldItem}
use Rattle.intake_read.specs.declared.items.WideFile.{WideFile}
use Rattle.intake_service.specs.Carrying.{CarriesFiles, HasEachSysmod}
use Rattle.smpe_lint.specs.declared.receiving.RefusedSysmod.{RefusedSysmod}

-- the SYSMOD is received, or one more is refused
abbrev pub TakesItem : Global → List RefusedSysmod → Item → Global → List RefusedSysmod → Type 0
TakesItem g refused (Sysmod s) after refused_after =
    (Receives g s (Ok after) × (refused_after ≡ refused)) ⊎ (0 < length refused_after)
TakesItem g refused (Assign a) after refused_after = (after ≡ g) × (refused_after ≡ refused)

-- RECEIVE takes each SYSMOD of the items, one after the other.
abbrev pub ReceivesEach : Global → List Item → Global → Type 0
ReceivesEach g [] after = after ≡ g
ReceivesEach g (Sysmod s ∷ items) after = (next : Global) × Receives g s (Ok next) × ReceivesEach next items after
ReceivesEach g (Assign a ∷ items) after = ReceivesEach g items after

-- into an empty global zone
abbrev pub ReceivesAll : List Item → Global → Type 0
ReceivesAll items after = ReceivesEach (a_global [] []) items after

-- The stream of these items is clean: RECEIVE takes all their SYSMODs, and the global zone that has them is clean.
pub record IsCleanStream (srel : Srel) (items : List Item) : Type 0 where
  pub received : Global
  pub all : ReceivesAll items received
  pub global : Global
  pub same : global.sysmods ≡ received.sysmods
  pub clean : IsClean global (ver_for global srel)

-- So many files were read. What becomes of their statements is carried, as CHECK takes it, each SYSMOD that they state
-- included, and the stream of that is clean.
pub record CarriesCleanStream (given : ℕ) (srel : Srel) : Type 0 where
  pub files : List WideFile
  pub each_file : length files ≡ given
  pub items : List Item
  pub hold_items : List HoldItem
  pub carries : CarriesFiles true files items hold_items
  pub each_sysmod : HasEachSysmod files items
  pub clean : IsCleanStream srel items

-- the statuses of a clean stream: without remarks, and with some
abbrev pub IsCleanStatus : ℕ → Type 0
IsCleanStatus status = (status ≡ 0) ⊎ (status ≡ 4)
