-- The statements that write a change, and why its commit fails.
use Rattle.std.specs.Prelude.{◌⊎◌, ◌==◌, ℕ, Bool, true, false, if◌then◌else◌, List, [], ◌∷◌, ◌++◌, fold, length}
use Rattle.std.specs.Prelude.{Option, None, Some}
use Rattle.std.specs.List.{filter_map, flat_map, zip}
use Rattle.std.specs.Option.{option_map_or}
use Rattle.sqlite.specs.Store.{Ghosts}
use Rattle.sqlite.specs.declared.error.Error.{Error}
use Rattle.sqlite.specs.Held.{Held, state}
use Rattle.sorted.specs.declared.edits.Edit.{Edit}
use Rattle.sorted.specs.declared.edits.Edit.TheVariants.{Put, Remove}
use Rattle.terms.specs.declared.kinds.ElemType.{ElemType}
use Rattle.terms.specs.Lookups.{sysmod_of}
use Rattle.terms.specs.Types.{Text, Id, Sysmod, Entry, Element, Global as AGlobal}
use Rattle.sysmods.specs.declared.edit.GlobalEdit.{GlobalEdit}
use Rattle.sysmods.specs.declared.edit.GlobalEdit.TheVariants.{PutHold, RemoveHold, InsertSysmod, ReplaceSources}
use Rattle.sysmods.specs.declared.edit.GlobalEdit.TheVariants.{RemoveSysmod}
use Rattle.zones_maps.specs.Delta.{ZoneDelta}
use Rattle.store_rows.specs.Calls.{Call, RefusedCall}
use Rattle.store_rows.specs.Reads.{HasFailed}
use Rattle.store_sysmods.specs.Holds.{upsert_hold_calls, remove_hold_calls}
use Rattle.store_sysmods.specs.Calls.{insert_sysmods_calls, replace_sources_calls, remove_sysmod_calls}
use Rattle.store_sysmods.specs.Sysmods.{sourced}
use Rattle.store_zones.specs.Calls.{zone_calls, insert_entries_calls, upsert_entry_calls, remove_entry_calls}
use Rattle.store_zones.specs.Calls.{insert_elements_calls, upsert_element_calls, remove_element_calls}
use Rattle.store_zones.specs.Zones.{empty_zone}
use Rattle.store.specs.declared.change.Change.{Change}
use Rattle.store.specs.declared.change.Change.TheVariants.{NewZone, Zone, Global}

-- the entry that an edit puts, if the zone had none of its id
abbrev pub new_entry : Edit Entry Id × Option ℕ → Option Entry
new_entry (Put entry, None) = Some entry
new_entry (Put entry, Some number) = None
new_entry (Remove id, stood) = None

-- An edit of an entry of the zone of this name. The old entry of its id, if there was one, was installed by this
-- number. A new entry has no statement of its own: it comes in with the others.
abbrev pub entry_calls : Text → Edit Entry Id × Option ℕ → List Call
entry_calls name (Put entry, None) = []
entry_calls name (Put entry, Some number) = upsert_entry_calls name (Some number) entry
entry_calls name (Remove id, stood) = remove_entry_calls name stood id

-- Entries that are put instead of others or removed, one after the other, and then all that are new.
abbrev pub entries_calls : Text → List (Edit Entry Id × Option ℕ) → List Call
entries_calls name edits =
    flat_map (entry_calls name) edits ++ insert_entries_calls name (filter_map new_entry edits)

-- the element that an edit puts, if there was none of its type and name
abbrev pub new_element : Edit Element (ElemType × Text) × Bool → Option Element
new_element (Put element, false) = Some element
new_element (Put element, true) = None
new_element (Remove key, stood) = None

-- the same for an edit of an element
abbrev pub element_calls : Text → Edit Element (ElemType × Text) × Bool → List Call
element_calls name (Put element, false) = []
element_calls name (Put element, true) = upsert_element_calls name true element
element_calls name (Remove key, stood) = remove_element_calls name key.0 key.1

-- and for all of them
abbrev pub elements_calls : Text → List (Edit Element (ElemType × Text) × Bool) → List Call
elements_calls name edits =
    flat_map (element_calls name) edits ++ insert_elements_calls name (filter_map new_element edits)

-- The statements that ran, and the SYSMODs that came after them and are not written yet. They wait for others, because
-- one statement puts rows of several SYSMODs.
abbrev pub Progress : Type 0
Progress = List Call × List Sysmod

-- so many SYSMODs wait at most
abbrev pub most_wait : ℕ
most_wait = 256

-- If so many wait, they are written, so that there is room for one more.
abbrev pub with_room : Progress → Progress
with_room (calls, waiting) =
    if length waiting == most_wait then (calls ++ insert_sysmods_calls waiting, []) else (calls, waiting)

-- the SYSMOD waits with the others
abbrev pub with_waiting : Progress → Sysmod → Progress
with_waiting progress s = let room = with_room progress in (room.0, room.1 ++ s ∷ [])

-- Those that wait are written, and then these statements run.
abbrev pub behind_waiting : Progress → List Call → Progress
behind_waiting (calls, waiting) more = (calls ++ (insert_sysmods_calls waiting ++ more), [])

-- Statements of holds, which have a table of their own, run at once.
abbrev pub with_calls : Progress → List Call → Progress
with_calls (calls, waiting) more = (calls ++ more, waiting)

-- an edit of the global zone; this zone has the statements of its SYSMODs
abbrev pub with_edit : AGlobal → Progress → GlobalEdit → Progress
with_edit stated progress (PutHold hold) = with_calls progress (upsert_hold_calls hold)
with_edit stated progress (RemoveHold id kind reason) = with_calls progress (remove_hold_calls id kind reason)
with_edit stated progress (InsertSysmod id sources) =
    option_map_or (λ s. with_waiting progress (sourced s sources.items)) (sysmod_of stated id) progress
with_edit stated progress (ReplaceSources sysmod) = behind_waiting progress (replace_sources_calls sysmod)
with_edit stated progress (RemoveSysmod id) = behind_waiting progress (remove_sysmod_calls id)

-- the statements and those that wait after so many edits
abbrev pub progress_of : AGlobal → List GlobalEdit → Progress
progress_of stated edits = fold (with_edit stated) ([], []) edits

-- All edits one after the other, and at the end those that wait.
abbrev pub edits_calls : AGlobal → List GlobalEdit → List Call
edits_calls stated edits = let progress = progress_of stated edits in progress.0 ++ insert_sysmods_calls progress.1

-- the entries first, and then the elements
abbrev pub delta_calls : Text → ZoneDelta → List Call
delta_calls name delta =
    entries_calls name (zip delta.edits.entries delta.numbers_before)
    ++ elements_calls name (zip delta.edits.elements delta.elements_existed)

-- one after the other, as they run
abbrev pub calls_of : Change → List Call
calls_of (NewZone name kind srel related) = zone_calls (empty_zone name kind srel related)
calls_of (Zone name delta) = delta_calls name delta
calls_of (Global stated edits) = edits_calls stated.now edits.items

-- the database refused one of the statements
abbrev pub IsRefused : {S : Type 0} → Ghosts S → Change → Held S → Type 0
IsRefused {S} g change old =
    (last : Held S) × (error : Error)
    × RefusedCall g (calls_of change) (record old { in_transaction = true }) last error

-- the disk failed or refused, the connection had been shut, or the database refused one of the statements
abbrev pub FailsToWrite : {S : Type 0} → Ghosts S → Change → Held S → Held S → Type 0
FailsToWrite g change old new = HasFailed (state g old) (state g new) ⊎ IsRefused g change old
