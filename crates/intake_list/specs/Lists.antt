-- A whole list of a zone.
use Rattle.std.specs.Prelude.{◌≡◌, ℕ, Bool, List, [], IsSomeAnd}
use Rattle.terms.specs.declared.kinds.ZoneKind.{ZoneKind}
use Rattle.terms.specs.Types.{Text}
use Rattle.intake_list.specs.declared.list.ListError.{ListError}
use Rattle.intake_list.specs.declared.list.ListError.TheVariants.{Memory, OtherZone}
use Rattle.intake_list.specs.Rows.{ListRow, rows_in}
use Rattle.intake_list.specs.Entries.{ListEntry, entries_of}
use Rattle.intake_list.specs.Zones.{other_zone}
use Rattle.intake_list.specs.Cut.{ends_open, falls}
use Rattle.intake_list.specs.Unread.{unread}

-- its entries, the lines of those whose ids do not follow those above them, the lines that reading leaves out, and
-- whether it ends within an entry
pub record ZoneList : Type 0 where
  pub entries : List ListEntry
  pub falls : List ℕ
  pub unread : List ℕ
  pub is_open : Bool

abbrev pub listed_in : List ListRow → ZoneList
listed_in rows = record {
  entries = entries_of [] rows;
  falls = falls (entries_of [] rows);
  unread = unread rows;
  is_open = ends_open rows;
}

-- the list that a text is
abbrev pub list_of : Text → ZoneList
list_of text = listed_in (rows_in text)

-- why rows are not a list of this zone: the heading in this line names another one
abbrev pub IsRefusal : ZoneKind → Text → List ListRow → ListError → Type 0
IsRefusal kind name rows Memory = Unit {0}
IsRefusal kind name rows (OtherZone line) = IsSomeAnd (other_zone kind name rows) (λ row. row.number ≡ line)
