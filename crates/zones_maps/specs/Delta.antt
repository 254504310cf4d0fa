-- How a command changes a zone: what it puts and removes at some keys. At all others the zone stays as it is.
use Rattle.std.specs.Prelude.{◌≡◌, ℕ, Bool, List, Option, All, IsTrue, IfSome, is_some, map}
use Rattle.std.specs.Option.{option_map, option_map_or}
use Rattle.std.specs.Ordering.{nat_cmp}
use Rattle.std.specs.Cmp.Lexicographic.{slice_cmp}
use Rattle.std.specs.Str.{bytes_eq}
use Rattle.sorted.specs.declared.edits.Edit.{Edit}
use Rattle.sorted.specs.Edits.{edit_key, edit_put, after_edits}
use Rattle.terms.specs.declared.kinds.ElemType.{ElemType}
use Rattle.terms.specs.Types.{Text, Id, Entry, Element, Zone}
use Rattle.terms.specs.Lookups.{IsZone, entry_of, element_of, element_cmp, element_key, element_eq}
use Rattle.terms.specs.Lookups.{has_content, waives_applied}
use Rattle.terms.specs.Rising.{Rises}

-- entries and elements that are put and removed
pub record ZoneEdits : Type 0 where
  pub entries : List (Edit Entry Id)
  pub elements : List (Edit Element (ElemType × Text))

-- The edits rise by their keys, and what they put may be in a zone.
pub record AreEdits (edits : ZoneEdits) : Type 0 where
  pub entries : Rises (slice_cmp nat_cmp) (edit_key (λ e. e.id)) edits.entries
  pub held : All (λ d. IfSome (edit_put d) (λ e. IsTrue (has_content e))) edits.entries
  pub waived : All (λ d. IfSome (edit_put d) (λ e. IsTrue (waives_applied e))) edits.entries
  pub elements : Rises element_cmp (edit_key element_key) edits.elements

-- The new zone has at each key what the edits leave there.
pub record IsEdited (edits : ZoneEdits) (old new : Zone) : Type 0 where
  pub rest : new ≡ record old { entries = new.entries; elements = new.elements }
  pub is_zone : IsZone new
  pub entries : (x : Id) → entry_of new x ≡ after_edits bytes_eq (λ e. e.id) edits.entries old.entries x
  pub elements : (type : ElemType) (name : Text) →
      element_of new type name ≡ after_edits element_eq element_key edits.elements old.elements (type, name)

-- the number of the ++VER by which an entry is installed, or 1 if it is not applied
abbrev pub number_of : Entry → ℕ
number_of e = option_map_or (λ a. a.number) e.applied 1

-- edits of a zone, and what the zone had at the key of each: for an entry the number of its ++VER, for an element only
-- whether there was one
pub record ZoneDelta : Type 0 where
  pub edits : ZoneEdits
  pub numbers_before : List (Option ℕ)
  pub elements_existed : List Bool

-- what the zone has at the key of an edit
abbrev pub entry_stood : Zone → Edit Entry Id → Option ℕ
entry_stood zone d = option_map number_of (entry_of zone (edit_key (λ e. e.id) d))

abbrev pub element_stood : Zone → Edit Element (ElemType × Text) → Bool
element_stood zone d = is_some (element_of zone (edit_key element_key d).0 (edit_key element_key d).1)

-- The delta knows what the zone has at the key of each of its edits.
pub record KnowsStood (zone : Zone) (delta : ZoneDelta) : Type 0 where
  pub entries : delta.numbers_before ≡ map (entry_stood zone) delta.edits.entries
  pub elements : delta.elements_existed ≡ map (element_stood zone) delta.edits.elements

abbrev pub IsDelta : ZoneDelta → Type 0
IsDelta delta = AreEdits delta.edits

abbrev pub IsChanged : ZoneDelta → Zone → Zone → Type 0
IsChanged delta old new = IsEdited delta.edits old new
