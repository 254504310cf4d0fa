-- Tables of which each row was read stand for an inventory.
use Rattle.std.proofs.Common.{◌≡◌, ◌<◌, ◌≤◌, ◌+◌, ℕ, List, [], IsTrue, Option, length, get_or, take, sym, subst}
use Rattle.sqlite.specs.Effect.{Database}
use Rattle.sqlite.specs.Held.{Held, state}
use Rattle.sqlite.specs.Store.{Ghosts}
use Rattle.terms.specs.Types.{Global, Zone, NamedZone}
use Rattle.store_rows.specs.Rows.{Contents, HasContents}
use Rattle.store_schema.specs.declared.schema.Schema.TheVariants.{Third}
use Rattle.store_schema.specs.Inventory.{Inventory}
use Rattle.store_schema.specs.Known.{HasOwnTables}
use Rattle.store_schema.specs.Stands.{StandsFor}
use Rattle.store_schema.specs.Tables.{store_schema}
use Rattle.store_zones.specs.declared.head.ZoneHead.{ZoneHead}
use Rattle.store_zones.specs.Held.{HoldsHeads}
use Rattle.store.specs.View.{Tables, ShowsCommitted}
use Rattle.store.specs.Whole.{HoldsGlobal, ShowsGlobal, ShowsHeads, ShowsZone}
use Rattle.store_migration.specs.Migrated.{HasRowids}
use Rattle.store_migration.proofs.Checking.{HoldsFirst, first_none, first_found, first_all}
use Rattle.store_migration.proofs.Standing.{stands_from}

-- this global zone, all of these heads, and the zones of the first of them
pub record HoldsSoFar (contents : Contents) (global : Global) (heads : List ZoneHead) (k : ℕ) : Type 0 where
  pub globals : HoldsGlobal Third contents global
  pub all : HoldsHeads contents heads
  pub zones : List NamedZone
  pub first : HoldsFirst Third contents (take k heads) zones

module _ {S : Type 0} (g : Ghosts S) (old : Held S) where
  -- what is shown later is shown at first, if the connection shows the same
  pub since : (new : Held S) → (state g new).now ≡ (state g old).now → (Holds : Contents → Type 0)
      → ((contents : Contents) → HasContents store_schema contents (state g new).now → Holds contents)
      → (contents : Contents) → HasContents store_schema contents (state g old).now → Holds contents
  since new same Holds shows contents held =
      shows contents (subst (λ (db : Database). HasContents store_schema contents db) (sym same) held)

  module _ (global : Global) (heads : List ZoneHead) where
    abbrev pub ShowsSoFar : ℕ → Type 0
    ShowsSoFar k =
        (contents : Contents) → HasContents store_schema contents (state g old).now → HoldsSoFar contents global heads k

    pub begins : ShowsGlobal g old global → ShowsHeads g old heads → ShowsSoFar 0
    begins globals all contents held = record {
      globals = globals contents held;
      all = all contents held;
      zones = [];
      first = first_none Third contents;
    }

    pub one_more : (k : ℕ) (head : ZoneHead) (found : Option Zone) → k < length heads → head ≡ get_or heads k head
        → ShowsSoFar k → ShowsZone g old head.name found → ShowsSoFar (k + 1)
    one_more k head found below at before zone contents held =
        let it = before contents held in
        let more = first_found Third contents heads k head it.zones found below at it.all it.first
        (zone contents held) in
        record { globals = it.globals; all = it.all; zones = more.0; first = more.1 }

    pub all_read : (k : ℕ) → length heads ≤ k → ShowsSoFar k → ShowsCommitted g old → IsTrue (state g old).is_open
        → HasOwnTables (state g old).now → HasRowids (state g old).now → (i : Inventory) × Tables g old i
    all_read k end read shown is_open own rowids =
        let it = stands_from Third (state g old).now (shown is_open).0 own rowids
        (λ contents held. (global, (read contents held).globals))
        (λ contents held.
        let so_far = read contents held in
        (so_far.zones, first_all Third contents heads k so_far.zones end so_far.all so_far.first)) in
        (it.0, λ clean. (is_open, subst (StandsFor it.0) (shown is_open).1 it.1))
