-- What an open finds of what was committed.
use Rattle.std.specs.Prelude.{◌≡◌}
use Rattle.sqlite.specs.Store.{Ghosts}
use Rattle.sqlite.specs.Held.{Held, state}
use Rattle.sqlite.specs.State.{HasCleanDisk, IsLive}
use Rattle.store_schema.specs.Inventory.{Inventory}
use Rattle.store.specs.View.{Tables, IsFound}

-- A connection that shows what the store last committed finds its inventory. By sqlite's `finds_again` an open of the
-- files that a close returned shows that.
abbrev pub FindsAgain : {S T : Type 0} → Ghosts S → Ghosts T → Type 0
FindsAgain {S} {T} g h =
    (old : Held S) (new : Held T) (i : Inventory) → HasCleanDisk (state g old) → Tables g old i → IsLive (state h new)
    → (state h new).committed.trees ≡ (state g old).committed.trees → IsFound h new i
