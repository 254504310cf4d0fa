-- The lines of a list that reading leaves out.
use Rattle.std.specs.Prelude.{◌==◌, ◌&&◌, ◌||◌, ℕ, Bool, true, false, not, List, [], ◌∷◌, ◌++◌, length, codes}
use Rattle.std.specs.Prelude.{if◌then◌else◌}
use Rattle.std.specs.Str.{bytes_eq}
use Rattle.intake_list.specs.declared.row.RowForm.{RowForm}
use Rattle.intake_list.specs.declared.row.RowForm.TheVariants.{Page, Title, Begins, Names, GoesOn, Other}
use Rattle.intake_list.specs.Rows.{ListRow, word_at}
use Rattle.intake_list.specs.Entries.{begins_entry}
use Rattle.intake_list.specs.Cut.{has_words}

abbrev pub is_other : RowForm → Bool
is_other Page = false
is_other Title = false
is_other Begins = false
is_other Names = false
is_other GoesOn = false
is_other Other = true

-- whether the line says something of an entry that begins above it
abbrev pub needs_entry : RowForm → Bool
needs_entry Page = false
needs_entry Title = false
needs_entry Begins = false
needs_entry Names = true
needs_entry GoesOn = true
needs_entry Other = false

-- the line over the names of entries
abbrev pub is_name_heading : ListRow → Bool
is_name_heading row = length row.values == 1 && bytes_eq (word_at row.values 0) (codes "NAME")

-- whether reading leaves the line out: it has words and no form, or it says something of an entry and none is above it
abbrev pub is_unread : Bool → ListRow → Bool
is_unread within row =
    (is_other row.form && has_words row && not (is_name_heading row)) || (needs_entry row.form && not within)

abbrev pub unread_here : Bool → ListRow → List ℕ
unread_here within row = if is_unread within row then row.number ∷ [] else []

-- the numbers of the lines that reading leaves out. The first argument says whether an entry is above them.
abbrev pub unread_from : Bool → List ListRow → List ℕ
unread_from within [] = []
unread_from within (row ∷ rows) = unread_here within row ++ unread_from (within || begins_entry row.form) rows

abbrev pub unread : List ListRow → List ℕ
unread rows = unread_from false rows
