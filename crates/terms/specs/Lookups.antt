-- Finding things in the global zone and in a zone, and what is supplied in a zone.
use Rattle.std.specs.Prelude.{◌≡◌, ◌&&◌, ◌||◌, ◌==◌, IsTrue, All, AllPairs, ℕ, Bool, true, false, not, List, [], ◌∷◌}
use Rattle.std.specs.Prelude.{Option, None, Some, option_map, find, filter, map, is_some}
use Rattle.std.specs.List.{list_any}
use Rattle.std.specs.Option.{option_map_or, option_and_then}
use Rattle.std.specs.declared.cmp.Ordering.{Ordering}
use Rattle.std.specs.Ordering.{is_lt, nat_cmp, ordering_then}
use Rattle.std.specs.Cmp.Lexicographic.{slice_cmp}
use Rattle.std.specs.Str.{bytes_eq}
use Rattle.terms.specs.declared.kinds.ElemType.{ElemType}
use Rattle.terms.specs.declared.kinds.HoldKind.{HoldKind}
use Rattle.terms.specs.Rising.{Rises}
use Rattle.terms.specs.Types.{Name, Date, Id, type_number, hold_number, Hold, Change, Sysmod}
use Rattle.terms.specs.Types.{Global, Applied, Entry, Element, Zone, is_function_kind, is_target}

abbrev pub is_nil : {X : Type 0} → List X → Bool
is_nil [] = true
is_nil (x ∷ xs) = false

-- the value as a list
abbrev pub at_most_one : {X : Type 0} → Option X → List X
at_most_one None = []
at_most_one (Some x) = x ∷ []

-- whether the id is in the list
abbrev pub is_in : List Id → Id → Bool
is_in xs x = list_any (bytes_eq x) xs

-- whether the two lists share an id
abbrev pub meets : List Id → List Id → Bool
meets xs ys = list_any (λ x. is_in ys x) xs

-- whether x comes before y by its bytes
abbrev pub is_before : List ℕ → List ℕ → Bool
is_before x y = is_lt (slice_cmp nat_cmp x y)

-- the ids rise by their bytes, none twice
abbrev pub IsRising : List Id → Type 0
IsRising xs = AllPairs (λ x y. IsTrue (is_before x y)) xs

-- the received SYSMOD of this id
abbrev pub sysmod_of : Global → Id → Option Sysmod
sysmod_of g x = find (λ s. bytes_eq s.id x) g.sysmods

abbrev pub is_received : Global → Id → Bool
is_received g x = is_some (sysmod_of g x)

-- whether it is a received function
abbrev pub is_function : Global → Id → Bool
is_function g x = option_map_or (λ s. is_function_kind s.kind) (sysmod_of g x) false

-- the element statements of a received SYSMOD
abbrev pub changes_of : Global → Id → List Change
changes_of g x = option_map_or (λ s. s.changes) (sysmod_of g x) []

-- what it does to the element of this type and name
abbrev pub change_of : Global → Id → ElemType → Name → Option Change
change_of g x type name = find (λ h. (type_number h.elem_type == type_number type) && bytes_eq h.name name)
    (changes_of g x)

-- whether it replaces or updates the element
abbrev pub has_change : Global → Id → ElemType → Name → Bool
has_change g x type name = is_some (change_of g x type name)

-- the holds of one kind on an id, which need not be received
abbrev pub holds_of : Global → HoldKind → Id → List Hold
holds_of g kind x = filter (λ h. bytes_eq h.id x && (hold_number h.kind == hold_number kind)) g.holds

-- An entry exists because of a date, SUPBY or DELBY.
abbrev pub has_content : Entry → Bool
has_content e = is_some e.applied || not (is_nil e.supby) || is_some e.delby

-- Only an applied SYSMOD waives anything.
abbrev pub waives_applied : Entry → Bool
waives_applied e = is_some e.applied || is_nil e.waived

-- the type and the name of an element
abbrev pub element_key : Element → ElemType × Name
element_key e = (e.elem_type, e.name)

-- the type and name of the element that a statement changes
abbrev pub change_key : Change → ElemType × Name
change_key h = (h.elem_type, h.name)

-- the order of elements: by type, and then by name
abbrev pub element_cmp : ElemType × Name → ElemType × Name → Ordering
element_cmp a b = ordering_then (nat_cmp (type_number a.0) (type_number b.0)) (slice_cmp nat_cmp a.1 b.1)

-- whether both have one type and one name
abbrev pub element_eq : ElemType × Name → ElemType × Name → Bool
element_eq a b = (type_number a.0 == type_number b.0) && bytes_eq a.1 b.1

-- Entries and elements are in order, none twice. No entry is empty. Only a target zone names a related zone.
pub record IsZone (zone : Zone) : Type 0 where
  pub entries : Rises (slice_cmp nat_cmp) (λ e. e.id) zone.entries
  pub held : All (λ e. IsTrue (has_content e)) zone.entries
  pub waived : All (λ e. IsTrue (waives_applied e)) zone.entries
  pub elements : Rises element_cmp element_key zone.elements
  pub related : is_some zone.related ≡ is_target zone.kind

-- the SYSMOD entry of this id
abbrev pub entry_of : Zone → Id → Option Entry
entry_of zone x = find (λ e. bytes_eq e.id x) zone.entries

-- the element entry of this type and name
abbrev pub element_of : Zone → ElemType → Name → Option Element
element_of zone type name = find (λ e. (type_number e.elem_type == type_number type) && bytes_eq e.name name)
    zone.elements

-- whether it is applied, in a distribution zone accepted. Only an applied SYSMOD supplies an FMID.
abbrev pub is_applied : Zone → Id → Bool
is_applied zone x = option_map_or (λ e. is_some e.applied) (entry_of zone x) false

-- the date of an entry that is applied
abbrev pub date_of : Entry → Option Date
date_of e = option_map (λ a. a.date) e.applied

-- when it was applied, and by which ++VER
abbrev pub applied_of : Zone → Id → Option Applied
applied_of zone x = option_and_then (λ e. e.applied) (entry_of zone x)

-- the applied SYSMODs that supersede it
abbrev pub supby_of : Zone → Id → List Id
supby_of zone x = option_map_or (λ e. e.supby) (entry_of zone x) []

-- the function that deleted it
abbrev pub delby_of : Zone → Id → Option Id
delby_of zone x = option_and_then (λ e. e.delby) (entry_of zone x)

-- the requisites of it that were bypassed
abbrev pub waived_of : Zone → Id → List Id
waived_of zone x = option_map_or (λ e. e.waived) (entry_of zone x) []

-- An id is supplied if it is applied or superseded.
abbrev pub is_supplied : Zone → Id → Bool
is_supplied zone x = is_applied zone x || not (is_nil (supby_of zone x))

-- The SYSMOD p supplies z: p is applied, and it is z or supersedes z.
abbrev pub supplies : Zone → Id → Id → Bool
supplies zone p z = is_applied zone p && (bytes_eq p z || is_in (supby_of zone z) p)

-- the ids that are applied
abbrev pub applied_ids : Zone → List Id
applied_ids zone = map (λ e. e.id) (filter (λ e. is_some e.applied) zone.entries)
