-- Which changes of the tables an act may commit.
use Rattle.std.specs.Prelude.{◌≡◌, All, false}
use Rattle.terms.specs.Types.{Command, Receive, Reject, Apply, Accept, Restore, Zone as AZone}
use Rattle.zones_maps.specs.Delta.{IsDelta, KnowsStood}
use Rattle.machine.specs.Machine.{Act, Perform, Define}
use Rattle.sysmods.specs.Edits.{IsOfReceive, IsOfReject, HasWrittenForm}
use Rattle.store.specs.declared.change.Change.{Change}
use Rattle.store.specs.declared.change.Change.TheVariants.{NewZone, Zone, Global}

-- a change of the global zone that removes no SYSMOD, and writes nothing but what has its form
abbrev pub IsReceived : Change → Type 0
IsReceived (Global stated edits) = All IsOfReceive edits.items × All HasWrittenForm edits.items
IsReceived _ = ⊥

-- one that only removes SYSMODs and holds
abbrev pub IsRejected : Change → Type 0
IsRejected (Global stated edits) = All IsOfReject edits.items
IsRejected _ = ⊥

-- a change of a target or distribution zone: edits of one, with what it has at their keys
abbrev pub IsOfZone : Change → Type 0
IsOfZone (Zone name delta) = (zone : AZone) × IsDelta delta × KnowsStood zone delta
IsOfZone _ = ⊥

-- RECEIVE and REJECT change the global zone, and APPLY, ACCEPT and RESTORE another one, unless they only check. SET,
-- LIST and REPORT change nothing.
abbrev pub IsOwnOf : Command → Change → Type 0
IsOwnOf (Receive what) change = IsReceived change
IsOwnOf (Reject ids) change = IsRejected change
IsOwnOf (Apply i) change = IsOfZone change × (i.check ≡ false)
IsOwnOf (Accept i) change = IsOfZone change × (i.check ≡ false)
IsOwnOf (Restore what check) change = IsOfZone change × (check ≡ false)
IsOwnOf _ change = ⊥

-- The definition of a zone adds that zone. The beginning of a job and the fault of a command file change nothing.
abbrev pub IsOwn : Act → Change → Type 0
IsOwn (Perform date files c) change = IsOwnOf c change
IsOwn (Define d) change = change ≡ NewZone d.name d.kind d.srel d.related
IsOwn _ change = ⊥
