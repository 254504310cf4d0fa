-- What a store keeps of the machine's state: all except the boundary.
use Rattle.std.specs.Prelude.{◌≡◌, List, Some}
use Rattle.sqlite.specs.Store.{Ghosts}
use Rattle.sqlite.specs.Held.{Held}
use Rattle.store_schema.specs.Inventory.{Inventory}
use Rattle.machine.specs.State.{State}
use Rattle.machine.specs.Outcome.{Outcome}
use Rattle.machine.specs.Machine.{Act, Steps}
use Rattle.machine.specs.Runs.{Stands}
use Rattle.store.specs.Changes.{Makes}
use Rattle.store.specs.declared.change.Change.{Change}
use Rattle.store.specs.declared.change.Change.TheVariants.{Zone}
use Rattle.store.specs.View.{Tables, Leaves}
use Rattle.store.specs.Own.{IsOwn}

abbrev pub kept : State → Inventory
kept s = record { global = s.global; zones = s.zones }

-- The tables stand for the state, and a crash leaves it.
abbrev pub Keeps : {S : Type 0} → Ghosts S → Held S → State → Type 0
Keeps g at s = Stands (Tables g at) (Leaves g at) (kept s)

-- what is kept of a state to which the act leads
abbrev pub IsAfter : State → Act → Inventory → Type 0
IsAfter s a c = (m : State) × (outcomes : List Outcome) × Steps s a m outcomes × (c ≡ kept m)

-- A zone that is changed is that of the boundary.
abbrev pub IsHere : State → Change → Type 0
IsHere s (Zone name delta) = s.boundary ≡ Some name
IsHere s _ = Unit {0}

-- The change is one of the act's own, and makes of the state what the act leads to.
abbrev pub LeadsOn : State → Act → Change → Type 0
LeadsOn s a change =
    IsOwn a change × IsHere s change
    × ((m : State) × (outcomes : List Outcome) × Steps s a m outcomes × Makes change (kept s) (kept m))
