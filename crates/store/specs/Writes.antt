-- What is written in the transaction of a commit, and how the commit changes the database.
use Rattle.std.specs.Prelude.{◌≡◌, ℕ, Bool, true, false, not, List, [], ◌∷◌, map, filter, Option, None, Some, is_some}
use Rattle.std.specs.Prelude.{IsTrue}
use Rattle.std.specs.Ordering.{nat_cmp}
use Rattle.std.specs.Cmp.Lexicographic.{slice_cmp}
use Rattle.sqlite.specs.Store.{Ghosts}
use Rattle.sqlite.specs.Tree.{Trees}
use Rattle.sqlite.specs.Schema.{Schema}
use Rattle.sqlite.specs.Held.{Held, state}
use Rattle.terms.specs.declared.kinds.ElemType.{ElemType}
use Rattle.sorted.specs.declared.edits.Edit.{Edit}
use Rattle.sorted.specs.declared.edits.Edit.TheVariants.{Put, Remove}
use Rattle.terms.specs.Types.{Text, Id, Entry, Element, Zone}
use Rattle.terms.specs.Lookups.{IsZone, entry_of, element_of, element_cmp, element_key}
use Rattle.terms.specs.Rising.{Rises}
use Rattle.zones_maps.specs.Delta.{ZoneDelta, IsDelta}
use Rattle.sorted.specs.Edits.{edit_key, edited}
use Rattle.store_rows.specs.Inside.{Leads}
use Rattle.store_rows.specs.Rows.{HasContents}
use Rattle.store_schema.specs.Inventory.{Inventory, IsInventory}
use Rattle.store_schema.specs.Stands.{StandsFor, rows_of}
use Rattle.store_schema.specs.Tables.{store_schema}
use Rattle.store_zones.specs.Zones.{HasEntry, HasElement}
use Rattle.store.specs.declared.change.Change.{Change}
use Rattle.store.specs.Changes.{Makes}

-- the zone's entries after the edits, in their order
abbrev pub entries_after : List Entry → List (Edit Entry Id) → List Entry
entries_after entries edits = edited (slice_cmp nat_cmp) (λ (e : Entry). e.id) entries edits

abbrev pub elements_after : List Element → List (Edit Element (ElemType × Text)) → List Element
elements_after elements edits = edited element_cmp element_key elements edits

-- the zone's entries are edited in this way
abbrev pub HasEditedEntries : List (Edit Entry Id) → Zone → Zone → Type 0
HasEditedEntries edits old new = new ≡ record old { entries = entries_after old.entries edits }

-- and its elements in this way
abbrev pub HasEditedElements : List (Edit Element (ElemType × Text)) → Zone → Zone → Type 0
HasEditedElements edits old new = new ≡ record old { elements = elements_after old.elements edits }

-- An entry is edited, if the zone still has what this one had at the edit's id.
pub record EditsEntry (zone : Zone) (edit : Edit Entry Id) (old new : Zone) : Type 0 where
  pub was : HasEntry (edit_key (λ e. e.id) edit) (entry_of zone (edit_key (λ e. e.id) edit)) old
  pub is : HasEditedEntries (edit ∷ []) old new

-- The same for an element.
pub record EditsElement (zone : Zone) (edit : Edit Element (ElemType × Text)) (old new : Zone) : Type 0 where
  pub was : HasElement (edit_key element_key edit).0 (edit_key element_key edit).1
      (element_of zone (edit_key element_key edit).0 (edit_key element_key edit).1) old
  pub is : HasEditedElements (edit ∷ []) old new

-- An edit is made, unless it puts a new entry.
abbrev pub EditsOldEntry : Zone → Edit Entry Id × Option ℕ → Zone → Zone → Type 0
EditsOldEntry zone (Put entry, None) old new = new ≡ old
EditsOldEntry zone (Put entry, Some number) old new = EditsEntry zone (Put entry) old new
EditsOldEntry zone (Remove id, stood) old new = EditsEntry zone (Remove id) old new

-- or a new element
abbrev pub EditsOldElement : Zone → Edit Element (ElemType × Text) × Bool → Zone → Zone → Type 0
EditsOldElement zone (Put element, false) old new = new ≡ old
EditsOldElement zone (Put element, true) old new = EditsElement zone (Put element) old new
EditsOldElement zone (Remove key, stood) old new = EditsElement zone (Remove key) old new

-- the edits that put nothing new, of some with what stood at their keys
abbrev pub others : {X K B : Type 0} → (Edit X K × B → Option X) → List (Edit X K × B) → List (Edit X K)
others new edits = map (λ d. d.0) (filter (λ d. not (is_some (new d))) edits)

-- The edits, which rise, are made to the entries of a zone that has those of this one.
pub record EditsEntries (zone : Zone) (edits : List (Edit Entry Id)) (old new : Zone) : Type 0 where
  pub is_zone : IsZone zone
  pub rises : Rises (slice_cmp nat_cmp) (edit_key (λ e. e.id)) edits
  pub was : old.entries ≡ zone.entries
  pub is : HasEditedEntries edits old new

-- and to the elements
pub record EditsElements (zone : Zone) (edits : List (Edit Element (ElemType × Text))) (old new : Zone) : Type 0 where
  pub is_zone : IsZone zone
  pub rises : Rises element_cmp (edit_key element_key) edits
  pub was : old.elements ≡ zone.elements
  pub is : HasEditedElements edits old new

-- and to both
pub record HasEdited (zone : Zone) (delta : ZoneDelta) (old new : Zone) : Type 0 where
  pub is_zone : IsZone zone
  pub is_delta : IsDelta delta
  pub was : old ≡ zone
  pub is : new ≡ record old {
    entries = entries_after old.entries delta.edits.entries;
    elements = elements_after old.elements delta.edits.elements;
  }

module _ {S : Type 0} (g : Ghosts S) (old : Held S) (change : Change) where
  -- the rows of an inventory become those of the changed one
  abbrev pub Writes : Held S → Type 0
  Writes new =
      (i j : Inventory) → Makes change i j → IsInventory i
      → Leads g old new (HasContents store_schema (rows_of i)) (HasContents store_schema (rows_of j))

  -- The last commit stands for the changed inventory.
  pub record CommitsChange (new : Held S) : Type 0 where
    pub was_open : IsTrue (state g old).is_open
    pub is_open : IsTrue (state g new).is_open
    pub stands : (i j : Inventory) → Makes change i j → IsInventory j → StandsFor i (state g old).committed
        → StandsFor j (state g new).committed

  -- trees that stand for the changed inventory
  abbrev pub IsChangeOutcome : Trees → Type 0
  IsChangeOutcome db =
      (schema : Schema)
      × ((i j : Inventory) → Makes change i j → IsInventory j → IsTrue (state g old).is_open
      → StandsFor i (state g old).committed → StandsFor j (record { schema = schema; trees = db }))
