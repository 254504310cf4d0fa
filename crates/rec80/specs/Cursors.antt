-- Places in records, and the texts from there on.
use Rattle.std.specs.Prelude.{ℕ, List, ◌++◌, take}
use Rattle.terms.specs.Statement.{followed, IsPlace}
use Rattle.rec80.specs.declared.cursor.Cursor.{Cursor}
use Rattle.rec80.specs.declared.text.Text.{Text}

-- the whole rest of the text
abbrev pub rest_of : Cursor → List ℕ
rest_of c = c.line.now ++ followed c.later.now

-- The rest of the line, and so many bytes after it.
abbrev pub text_of : Text → List ℕ
text_of t = t.line.now ++ take t.more (followed t.later.now)

-- the part of it that is in the first record
abbrev pub line_of : Text → List ℕ
line_of t = t.line.now

-- The cursor is at a place in the records, after so many of them.
abbrev pub IsIn : List (List ℕ) → Cursor → Type 0
IsIn records c = (before : List (List ℕ)) × IsPlace records before c.line.now c.later.now

-- Whichever records the first cursor is in, the second one is in them too.
pub record IsAhead (old new : Cursor) : Type 0 where
  pub stays : (records : List (List ℕ)) → IsIn records old → IsIn records new
