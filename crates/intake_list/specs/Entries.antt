-- The entries of a list.
use Rattle.std.specs.Prelude.{Bool, true, false, ℕ, List, [], ◌∷◌, ◌++◌, drop, if◌then◌else◌}
use Rattle.terms.specs.Types.{Text}
use Rattle.intake_list.specs.declared.row.RowForm.{RowForm}
use Rattle.intake_list.specs.declared.row.RowForm.TheVariants.{Page, Title, Begins, Names, GoesOn, Other}
use Rattle.intake_list.specs.Rows.{ListRow, word_at}

-- a key with its values, and the line where it is
pub record ListKey : Type 0 where
  pub line : ℕ
  pub name : List Text
  pub values : List Text

-- an entry with its keys, the line where it begins, and the kind that the title above it names
pub record ListEntry : Type 0 where
  pub line : ℕ
  pub kind : Text
  pub id : Text
  pub keys : List ListKey

abbrev pub is_title_form : RowForm → Bool
is_title_form Page = false
is_title_form Title = true
is_title_form Begins = false
is_title_form Names = false
is_title_form GoesOn = false
is_title_form Other = false

abbrev pub begins_entry : RowForm → Bool
begins_entry Page = false
begins_entry Title = false
begins_entry Begins = true
begins_entry Names = false
begins_entry GoesOn = false
begins_entry Other = false

abbrev pub names_key : RowForm → Bool
names_key Page = false
names_key Title = false
names_key Begins = false
names_key Names = true
names_key GoesOn = false
names_key Other = false

abbrev pub goes_on : RowForm → Bool
goes_on Page = false
goes_on Title = false
goes_on Begins = false
goes_on Names = false
goes_on GoesOn = true
goes_on Other = false

-- whether a key ends above the line
abbrev pub ends_key : RowForm → Bool
ends_key Page = false
ends_key Title = false
ends_key Begins = true
ends_key Names = true
ends_key GoesOn = false
ends_key Other = false

-- the values that a line adds to the key above it
abbrev pub more_values : ListRow → List Text
more_values row = if goes_on row.form then row.values else []

-- the values in the lines below a key, up to the next key or entry. Headings break nothing off.
abbrev pub values_below : List ListRow → List Text
values_below [] = []
values_below (row ∷ rows) = if ends_key row.form then [] else more_values row ++ values_below rows

-- the key of a line, with this name, and the values in the lines below it
abbrev pub key_of : List Text → ListRow → List ListRow → ListKey
key_of name row below = record { line = row.number; name = name; values = row.values ++ values_below below }

-- the key of a line, if it has one
abbrev pub key_here : ListRow → List ListRow → List ListKey
key_here row below = if names_key row.form then key_of row.head row below ∷ [] else []

-- the keys in the lines below the first one of an entry, up to the next entry
abbrev pub keys_below : List ListRow → List ListKey
keys_below [] = []
keys_below (row ∷ rows) = if begins_entry row.form then [] else key_here row rows ++ keys_below rows

-- the entry that a line begins: a name and the first key, and the keys in the lines below it
abbrev pub entry_of : Text → ListRow → List ListRow → ListEntry
entry_of kind row below = record {
  line = row.number;
  kind = kind;
  id = word_at row.head 0;
  keys = key_of (drop 1 row.head) row below ∷ keys_below below;
}

abbrev pub entry_here : Text → ListRow → List ListRow → List ListEntry
entry_here kind row below = if begins_entry row.form then entry_of kind row below ∷ [] else []

-- the kind of the entries below a line
abbrev pub kind_after : Text → ListRow → Text
kind_after kind row = if is_title_form row.form then word_at row.values 1 else kind

-- the entries of rows, of this kind until a title names another one
abbrev pub entries_of : Text → List ListRow → List ListEntry
entries_of kind [] = []
entries_of kind (row ∷ rows) = entry_here kind row rows ++ entries_of (kind_after kind row) rows
