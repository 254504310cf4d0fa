-- The lines of a list: what SMP/E's LIST prints of a zone (IBM z/OS SMP/E Commands, LIST; Reference, SYSMOD entry and
-- the entries of elements).
use Rattle.std.specs.Prelude.{◌==◌, ◌||◌, ◌&&◌, ◌+◌, ◌-◌, ℕ, Bool, false, List, [], ◌∷◌, Option, Some, None, filter}
use Rattle.std.specs.Prelude.{length, take, drop, slice_get, unwrap_or, position, take_while, nat_lt, nat_le, codes}
use Rattle.std.specs.Prelude.{if◌then◌else◌}
use Rattle.std.specs.List.{list_all, list_any, slice_split}
use Rattle.std.specs.Str.{bytes_eq}
use Rattle.terms.specs.Types.{Text}
use Rattle.intake_list.specs.declared.row.RowForm.{RowForm}
use Rattle.intake_list.specs.declared.row.RowForm.TheVariants.{Page, Title, Begins, Names, GoesOn, Other}

-- ---- Words

-- a blank, a tab, a carriage return, a comma or a parenthesis: what separates words
abbrev pub is_gap : ℕ → Bool
is_gap b = b == 32 || b == 9 || b == 13 || b == 44 || b == 40 || b == 41

abbrev pub words_in : Text → List Text
words_in text = filter (λ word. nat_lt 0 (length word)) (slice_split is_gap text)

abbrev pub lines_in : Text → List Text
lines_in text = slice_split (λ b. b == 10) text

-- the word at a place, counted from 0, or no text if there are fewer words
abbrev pub word_at : List Text → ℕ → Text
word_at words at = unwrap_or (slice_get words at) []

-- how far the first word is from the left
abbrev pub indent : Text → ℕ
indent line = length (take_while is_gap line)

-- a capital letter, a digit, $, # or @
abbrev pub is_name_byte : ℕ → Bool
is_name_byte b = (nat_le 65 b && nat_le b 90) || (nat_le 48 b && nat_le b 57) || b == 36 || b == 35 || b == 64

-- a name: one to eight such characters
abbrev pub is_name : Text → Bool
is_name word = nat_lt 0 (length word) && nat_lt (length word) 9 && list_all is_name_byte word

-- ---- Columns

-- whether PAGE stands at the left
abbrev pub names_page : Text → Bool
names_page line = bytes_eq (take 4 (drop (indent line) line)) (codes "PAGE")

-- a heading with carriage control: it begins a page, by a 1 before the word PAGE
abbrev pub begins_page : Text → Bool
begins_page [] = false
begins_page (control ∷ line) = control == 49 && names_page line

-- Lines have carriage control in their first column if one of them is such a heading.
abbrev pub has_control : List Text → Bool
has_control lines = list_any begins_page lines

-- the columns of a line
abbrev pub columns : Bool → Text → Text
columns control line = if control then drop 1 line else line

-- ---- Rows

-- what a line says: its number, its form, the words up to its first equals sign, and those after it. A line without an
-- equals sign has all its words as values.
pub record ListRow : Type 0 where
  pub number : ℕ
  pub form : RowForm
  pub head : List Text
  pub values : List Text

-- the heading of a page: PAGE 0001 - NOW SET TO TARGET ZONE TGT1 ..
abbrev pub is_page : List Text → Bool
is_page words =
    bytes_eq (word_at words 0) (codes "PAGE") && bytes_eq (word_at words 3) (codes "NOW")
    && bytes_eq (word_at words 4) (codes "SET") && bytes_eq (word_at words 5) (codes "TO")
    && bytes_eq (word_at words 7) (codes "ZONE")

-- the title of entries: TGT1 SYSMOD ENTRIES
abbrev pub is_title : List Text → Bool
is_title words = nat_lt 2 (length words) && bytes_eq (word_at words (length words - 1)) (codes "ENTRIES")

-- A line without an equals sign is a heading, or it goes on with the values of a key, well to the right.
abbrev pub plain_form : ℕ → List Text → RowForm
plain_form left words =
    if is_page words then Page
    else if is_title words then Title
    else if nat_lt 7 left && nat_lt 0 (length words) then GoesOn
    else Other

-- A line with an equals sign begins an entry if it has a name in the first columns and a key after it. Further to the
-- right it has only a key.
abbrev pub key_form : ℕ → List Text → RowForm
key_form left head =
    if nat_lt left 4
    then (if is_name (word_at head 0) && nat_lt 1 (length head) then Begins else Other)
    else (if nat_lt 0 (length head) then Names else Other)

abbrev pub plain_row : ℕ → Text → ListRow
plain_row number line =
    record { number = number; form = plain_form (indent line) (words_in line); head = []; values = words_in line }

-- a line whose first equals sign is at this place
abbrev pub key_row : ℕ → Text → ℕ → ListRow
key_row number line at = record {
  number = number;
  form = key_form (indent line) (words_in (take at line));
  head = words_in (take at line);
  values = words_in (drop (at + 1) line);
}

abbrev pub row_at : ℕ → Text → Option ℕ → ListRow
row_at number line None = plain_row number line
row_at number line (Some at) = key_row number line at

abbrev pub row_of : ℕ → Text → ListRow
row_of number line = row_at number line (position (λ b. b == 61) line)

-- the rows of lines that are numbered from this number on
abbrev pub rows_from : Bool → ℕ → List Text → List ListRow
rows_from control number [] = []
rows_from control number (line ∷ lines) =
    row_of number (columns control line) ∷ rows_from control (number + 1) lines

-- the rows of a text
abbrev pub rows_in : Text → List ListRow
rows_in text = rows_from (has_control (lines_in text)) 1 (lines_in text)
