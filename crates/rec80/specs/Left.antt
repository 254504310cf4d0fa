-- The rest of a statement or a command, and words of known names.
use Rattle.std.specs.Prelude.{List, All, IsTrue}
use Rattle.terms.specs.Types.{Text}
use Rattle.terms.specs.Lookups.{is_in}
use Rattle.terms.specs.Statement.{Piece, HasSolid}
use Rattle.terms.specs.Words.{Word}
use Rattle.rec80.specs.declared.words.Words.{Words}
use Rattle.rec80.specs.Views.{left_of}

-- These pieces are left before the period.
abbrev pub LeavesPieces : Words → List Piece → Type 0
LeavesPieces words pieces = HasSolid (left_of words) pieces

-- only words or members of these names
abbrev pub AreNamed : List Text → List Word → Type 0
AreNamed names words = All (λ w. IsTrue (is_in names w.word)) words
