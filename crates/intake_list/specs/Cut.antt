-- Signs that a list may be cut off: it ends within an entry, or its ids do not rise.
use Rattle.std.specs.Prelude.{◌==◌, ◌&&◌, ◌||◌, ◌+◌, ℕ, Bool, true, false, List, [], ◌∷◌, ◌++◌, if◌then◌else◌}
use Rattle.std.specs.Prelude.{length, map, reverse, nat_lt, nat_le}
use Rattle.std.specs.List.{find}
use Rattle.std.specs.Option.{option_map_or}
use Rattle.std.specs.Ordering.{nat_cmp, is_lt}
use Rattle.std.specs.Cmp.Lexicographic.{slice_cmp}
use Rattle.std.specs.Str.{bytes_eq}
use Rattle.terms.specs.Types.{Text}
use Rattle.intake_list.specs.Rows.{ListRow}
use Rattle.intake_list.specs.Entries.{ListEntry, ends_key}

-- whether the line has words
abbrev pub has_words : ListRow → Bool
has_words row = nat_lt 0 (length row.head) || nat_lt 0 (length row.values)

-- a key without a value
abbrev pub is_open : ListRow → Bool
is_open row = ends_key row.form && length row.values == 0

-- whether the last line that has words is a key without a value
abbrev pub ends_open : List ListRow → Bool
ends_open rows = option_map_or is_open (find has_words (reverse rows)) false

-- the place of a character in the order of EBCDIC, in which SMP/E lists ids: $, #, @, letters, digits
abbrev pub rank : ℕ → ℕ
rank b =
    if b == 36 then 0
    else if b == 35 then 1
    else if b == 64 then 2
    else if nat_le 48 b && nat_le b 57 then b + 43
    else b

abbrev pub precedes : Text → Text → Bool
precedes a b = is_lt (slice_cmp nat_cmp (map rank a) (map rank b))

-- whether an entry may follow another: ids of one kind rise
abbrev pub may_follow : ListEntry → ListEntry → Bool
may_follow before after = if bytes_eq before.kind after.kind then precedes before.id after.id else true

-- the line of an entry, if its id does not follow the one above
abbrev pub fall_here : ListEntry → ListEntry → List ℕ
fall_here before after = if may_follow before after then [] else after.line ∷ []

abbrev pub falls_after : ListEntry → List ListEntry → List ℕ
falls_after before [] = []
falls_after before (entry ∷ entries) = fall_here before entry ++ falls_after entry entries

-- the lines of the entries whose ids do not follow those above them
abbrev pub falls : List ListEntry → List ℕ
falls [] = []
falls (entry ∷ entries) = falls_after entry entries
