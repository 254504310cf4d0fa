-- The rows that represent an inventory.
use Rattle.std.specs.Prelude.{◌+◌, ◌==◌, ℕ, ℤ, Bool, not, List, [], ◌∷◌, ◌++◌, length, map, filter, codes, pos}
use Rattle.std.specs.Prelude.{if◌then◌else◌}
use Rattle.std.specs.List.{concat, flat_map, enumerate_from, join_with_byte}
use Rattle.std.specs.Option.{option_map_or}
use Rattle.std.specs.Str.{bytes_eq}
use Rattle.sqlite.specs.declared.types.Value.{Value}
use Rattle.sqlite.specs.declared.types.Value.TheVariants as value
use Rattle.sqlite.specs.Values.{or_null}
use Rattle.sqlite.specs.Order.{Row}
use Rattle.terms.specs.Types.{Text, Id, Lines, IfReq, Ver, Hold, Action, Replaces, Updates, Change, Sysmod, Entry}
use Rattle.terms.specs.Types.{Element, NamedZone}
use Rattle.terms.specs.Lookups.{date_of}
use Rattle.terms.specs.Spelling.{kind_text, hold_text, type_text, zone_kind_text}

-- a list of ids, or of sources, as a text: joined by commas, and empty for none
abbrev pub joined : List Id → Value
joined list = value.Text (join_with_byte 44 list)

abbrev pub flag : Bool → Value
flag b = value.Int (pos (if b then 1 else 0))

-- the records one after the other
abbrev pub records : Lines → Value
records lines = value.Blob (concat lines)

-- the number of a schema, and that of this one
abbrev pub setting_row : ℤ → Row
setting_row n = value.Text (codes "schema") ∷ value.Int n ∷ []

abbrev pub number_row : Row
number_row = setting_row (pos 3)

-- the column of the sources stays empty, since they have a table of their own
abbrev pub sysmod_row : Sysmod → Row
sysmod_row s = value.Text s.id ∷ value.Text (kind_text s.kind) ∷ joined [] ∷ []

abbrev pub source_row : Id → Text → Row
source_row x name = value.Text x ∷ value.Text name ∷ []

-- a SYSMOD's first ++VER of an SREL
abbrev pub ver_row : Id → Ver → Row
ver_row x v =
    value.Text x ∷ value.Text v.srel ∷ or_null value.Text v.fmid ∷ joined v.pre ∷ joined v.req ∷ joined v.sup
    ∷ joined v.npre ∷ joined v.del ∷ []

-- a further ++VER of an SREL, and its number; it has neither NPRE nor DELETE
abbrev pub morever_row : Id → ℕ × Ver → Row
morever_row x v =
    value.Text x ∷ value.Text v.1.srel ∷ value.Int (pos v.0) ∷ or_null value.Text v.1.fmid ∷ joined v.1.pre
    ∷ joined v.1.req ∷ joined v.1.sup ∷ []

-- a ++IF of a first ++VER, and its number
abbrev pub ifreq_row : Id → Text → ℕ × IfReq → Row
ifreq_row x srel i =
    value.Text x ∷ value.Text srel ∷ value.Int (pos i.0) ∷ value.Text i.1.function ∷ joined i.1.req ∷ []

-- a ++IF of the ++VER of this number, and its own number
abbrev pub moreif_row : Id → Text → ℕ → ℕ × IfReq → Row
moreif_row x srel v i =
    value.Text x ∷ value.Text srel ∷ value.Int (pos v) ∷ value.Int (pos i.0) ∷ value.Text i.1.function ∷ joined i.1.req
    ∷ []

abbrev pub hold_row : Hold → Row
hold_row h =
    value.Text h.id ∷ value.Text (hold_text h.kind) ∷ value.Text h.reason ∷ value.Text h.fmid
    ∷ or_null value.Text h.class ∷ or_null value.Text h.date ∷ or_null value.Text h.comment ∷ flag h.internal ∷ []

-- whether it is an update, its libraries and its text
abbrev pub action_cells : Action → Row
action_cells (Replaces distlib syslib text) = value.Int (pos 0) ∷ value.Text distlib ∷ value.Text syslib ∷ records text
    ∷ []
action_cells (Updates lines) = value.Int (pos 1) ∷ value.Null ∷ value.Null ∷ records lines ∷ []

abbrev pub elem_row : Id → Change → Row
elem_row x c = value.Text x ∷ value.Text (type_text c.elem_type) ∷ value.Text c.name ∷ action_cells c.action

abbrev pub zone_row : NamedZone → Row
zone_row z =
    value.Text z.name ∷ value.Text (zone_kind_text z.zone.kind) ∷ value.Text z.zone.srel ∷ or_null value.Text
    z.zone.related ∷ []

abbrev pub entry_row : Text → Entry → Row
entry_row zone e =
    value.Text zone ∷ value.Text e.id ∷ or_null value.Text (date_of e) ∷ joined e.supby ∷ or_null value.Text e.delby
    ∷ joined e.waived ∷ []

-- the ++VER by which the zone has applied the SYSMOD
abbrev pub chosen_row : Text → Id → ℕ → Row
chosen_row zone x n = value.Text zone ∷ value.Text x ∷ value.Int (pos n) ∷ []

abbrev pub zelem_row : Text → Element → Row
zelem_row zone e =
    value.Text zone ∷ value.Text (type_text e.elem_type) ∷ value.Text e.name ∷ value.Text e.fmid ∷ value.Text e.rmid
    ∷ joined e.umids ∷ value.Text e.distlib ∷ value.Text e.syslib ∷ records e.text ∷ []

-- The number of a ++VER after these others: it counts among those of its SREL, from 1.
abbrev pub number_behind : List Ver → Ver → ℕ
number_behind front v = length (filter (λ w. bytes_eq w.srel v.srel) front) + 1

-- ++VERs that follow others, each with its number
abbrev pub numbered_behind : List Ver → List Ver → List (ℕ × Ver)
numbered_behind front [] = []
numbered_behind front (v ∷ vs) = (number_behind front v, v) ∷ numbered_behind (front ++ v ∷ []) vs

-- whether it is the first of its SREL
abbrev pub is_first : ℕ × Ver → Bool
is_first v = v.0 == 1

-- the first ++VERs of a SYSMOD, one of each SREL, and the further ones
abbrev pub first_vers : Sysmod → List (ℕ × Ver)
first_vers s = filter is_first (numbered_behind [] s.vers)

abbrev pub further_vers : Sysmod → List (ℕ × Ver)
further_vers s = filter (λ v. not (is_first v)) (numbered_behind [] s.vers)

-- the rows of a SYSMOD in the tables that refer to it; the ++IFs of a ++VER count from 1
abbrev pub sources_of : Sysmod → List Row
sources_of s = map (source_row s.id) s.sources

abbrev pub vers_of : Sysmod → List Row
vers_of s = map (λ v. ver_row s.id v.1) (first_vers s)

abbrev pub morevers_of : Sysmod → List Row
morevers_of s = map (morever_row s.id) (further_vers s)

abbrev pub ifreqs_of : Sysmod → List Row
ifreqs_of s = flat_map (λ v. map (ifreq_row s.id v.1.srel) (enumerate_from 1 v.1.ifs)) (first_vers s)

abbrev pub moreifs_of : Sysmod → List Row
moreifs_of s = flat_map (λ v. map (moreif_row s.id v.1.srel v.0) (enumerate_from 1 v.1.ifs)) (further_vers s)

abbrev pub elems_of : Sysmod → List Row
elems_of s = map (elem_row s.id) s.changes

-- the rows of a zone in the tables that refer to it
abbrev pub entries_of : NamedZone → List Row
entries_of z = map (entry_row z.name) z.zone.entries

abbrev pub zelems_of : NamedZone → List Row
zelems_of z = map (zelem_row z.name) z.zone.elements

-- If an entry was not installed by the first ++VER, there is a row for it.
abbrev pub chosen_in : Text → Entry → List Row
chosen_in zone e =
    option_map_or (λ a. if a.number == 1 then [] else chosen_row zone e.id a.number ∷ []) e.applied []

abbrev pub chosen_of : NamedZone → List Row
chosen_of z = flat_map (chosen_in z.name) z.zone.entries
