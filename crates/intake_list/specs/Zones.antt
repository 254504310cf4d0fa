-- The zone that a list is of, as the headings of its pages name it.
use Rattle.std.specs.Prelude.{◌||◌, ◌&&◌, Bool, true, false, not, List, Option, codes}
use Rattle.std.specs.List.{find}
use Rattle.std.specs.Str.{bytes_eq}
use Rattle.terms.specs.declared.kinds.ZoneKind.{ZoneKind}
use Rattle.terms.specs.declared.kinds.ZoneKind.TheVariants.{Target, Distribution}
use Rattle.terms.specs.Types.{Text}
use Rattle.intake_list.specs.declared.row.RowForm.{RowForm}
use Rattle.intake_list.specs.declared.row.RowForm.TheVariants.{Page, Title, Begins, Names, GoesOn, Other}
use Rattle.intake_list.specs.Rows.{ListRow, word_at}

abbrev pub is_page_form : RowForm → Bool
is_page_form Page = true
is_page_form Title = false
is_page_form Begins = false
is_page_form Names = false
is_page_form GoesOn = false
is_page_form Other = false

-- the words by which headings name the kind
abbrev pub is_kind_word : ZoneKind → Text → Bool
is_kind_word Target word = bytes_eq word (codes "TARGET")
is_kind_word Distribution word = bytes_eq word (codes "DLIB") || bytes_eq word (codes "DISTRIBUTION")

-- whether a heading names the zone: PAGE 0001 - NOW SET TO TARGET ZONE TGT1
abbrev pub names_zone : ZoneKind → Text → ListRow → Bool
names_zone kind name row = is_kind_word kind (word_at row.values 6) && bytes_eq (word_at row.values 8) name

-- whether the line is the heading of a page of another zone
abbrev pub is_of_other_zone : ZoneKind → Text → ListRow → Bool
is_of_other_zone kind name row = is_page_form row.form && not (names_zone kind name row)

-- the first heading
abbrev pub first_heading : List ListRow → Option ListRow
first_heading rows = find (λ row. is_page_form row.form) rows

-- the first heading of another zone
abbrev pub other_zone : ZoneKind → Text → List ListRow → Option ListRow
other_zone kind name rows = find (λ row. is_of_other_zone kind name row) rows
