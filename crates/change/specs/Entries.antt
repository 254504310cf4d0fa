-- The entries that an install makes.
use Rattle.std.specs.Prelude.{◌≡◌, ◌↔◌, ◌&&◌, ◌++◌, Bool, not, List, [], Option, None, Some, Contains, All}
use Rattle.std.specs.Prelude.{IsTrue, IsFalse, unwrap_or, if◌then◌else◌}
use Rattle.std.specs.Str.{bytes_eq}
use Rattle.sorted.specs.declared.edits.Edit.TheVariants.{Put, Remove}
use Rattle.terms.specs.Types.{Id, Entry, Zone, an_applied}
use Rattle.terms.specs.Lookups.{IsRising, is_in, is_nil, is_supplied, has_content, waives_applied, entry_of}
use Rattle.zones_maps.specs.Delta.{ZoneEdits}
use Rattle.sorted.specs.Edits.{after_edits}
use Rattle.change.specs.declared.deleting.Deleting.{Deleting}
use Rattle.change.specs.declared.plan.Plan.{Plan}
use Rattle.zones.specs.Gone.{left_of}
use Rattle.change.specs.Deleting.{delby_left}
use Rattle.zones_maps.specs.Differing.{EntryEdit, ChangesEntry, AddsEntryEdit}
use Rattle.change.specs.Pairs.{others_of}
use Rattle.sysmods.specs.Choices.{number_in}

-- whether nothing supplies it after the install
abbrev pub is_open : Deleting → Plan → Id → Bool
is_open d p z = not (is_in p.effective z) && is_nil (others_of p.superseders z) && not (is_supplied (left_of d.left) z)

abbrev pub bare_entry : Id → Entry
bare_entry x = record { id = x; applied = None; supby = []; delby = None; waived = [] }

-- the entry as it is, or one that has nothing
abbrev pub old_entry : Zone → Id → Entry
old_entry zone x = unwrap_or (entry_of zone x) (bare_entry x)

-- the bypassed requisites that nothing supplies
pub record IsWaived (d : Deleting) (p : Plan) (x : Id) (waived : List Id) : Type 0 where
  pub rising : IsRising waived
  pub members : (z : Id) → Contains waived z ↔ (Contains (others_of p.bypassed x) z × IsTrue (is_open d p z))

-- the entry of a SYSMOD that takes effect: what is left of it, and applied
pub record IsAppliedEntry (d : Deleting) (p : Plan) (x : Id) (e : Entry) : Type 0 where
  pub rest : e ≡ record (old_entry (left_of d.left) x) {
    applied = Some (an_applied p.date (number_in d.left.vers.now x));
    delby = delby_left d x;
    waived = e.waived;
  }
  pub waived : IsWaived d p x e.waived

-- the entry of any other id: what is left of it, with more in SUPBY
pub record IsOtherEntry (d : Deleting) (p : Plan) (x : Id) (e : Entry) : Type 0 where
  pub rest : e ≡ record (old_entry (left_of d.left) x) { supby = e.supby; delby = delby_left d x }
  pub supby : (y : Id) → Contains e.supby y ↔ Contains ((old_entry (left_of d.left) x).supby ++ others_of
      p.superseders x) y

-- what an install makes of an id's entry
pub record IsEntryAfter (d : Deleting) (p : Plan) (x : Id) (e : Entry) : Type 0 where
  pub id : e.id ≡ x
  pub applied : IsTrue (is_in p.effective x) → IsAppliedEntry d p x e
  pub other : IsFalse (is_in p.effective x) → IsOtherEntry d p x e
  pub waives : IsTrue (waives_applied e)

-- with the rising lists of all entries
pub record IsMadeEntry (d : Deleting) (p : Plan) (x : Id) (e : Entry) : Type 0 where
  pub after : IsEntryAfter d p x e
  pub supby : IsRising e.supby
  pub waived : IsRising e.waived

-- the entry is put, or removed if it would be empty
abbrev pub held_edit : Id → Entry → EntryEdit
held_edit x e = if has_content e then Put e else Remove x

-- the same, if it changes something
abbrev pub PutsEntry : Deleting → Plan → Id → ZoneEdits → ZoneEdits → Type 0
PutsEntry d p x old new = (e : Entry) × IsMadeEntry d p x e × AddsEntryEdit d.left.zone.now (held_edit x e) old new

-- the entry of an id after the edits
abbrev pub entry_after : ZoneEdits → Zone → Id → Option Entry
entry_after zone_edits zone x = after_edits bytes_eq (λ e. e.id) zone_edits.entries zone.entries x

-- the entry, unless it is empty
abbrev pub if_held : Entry → Option Entry
if_held e = if has_content e then Some e else None

-- The entries of some ids are put, and no others.
pub record HasPutEntries (d : Deleting) (p : Plan) (done : List Id) (old new : ZoneEdits) : Type 0 where
  pub elements : new.elements ≡ old.elements
  pub put : (x : Id) → Contains done x
      → (e : Entry) × (entry_after new d.left.zone.now x ≡ if_held e) × IsMadeEntry d p x e
  pub others : (x : Id) → (¬ Contains done x) → entry_after new d.left.zone.now x ≡ entry_of d.left.zone.now x
  pub differ : All (ChangesEntry d.left.zone.now) new.entries
