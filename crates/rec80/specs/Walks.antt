-- Walks over the pieces of a text: over gaps, to a place where no piece begins, and over a whole statement.
use Rattle.std.specs.Prelude.{◌≡◌, ℕ, List, [], ◌∷◌, ◌++◌}
use Rattle.terms.specs.Statement.{Piece, HasPieces, solid, followed, IsPlace, IsIdle, OpensComment, BreaksPairs}
use Rattle.terms.specs.Statement as statement
use Rattle.terms.specs.Statement.{StFault}
use Rattle.terms.specs.CommandCuts.{BeginsNoGap}
use Rattle.rec80.specs.declared.cursor.Cursor.{Cursor}
use Rattle.rec80.specs.declared.error.StmtError.{StmtError}
use Rattle.rec80.specs.declared.error.StmtError.TheVariants.{NoPeriod, OpenComment, BadParens, TextAfterPeriod}
use Rattle.rec80.specs.Cursors.{rest_of, IsIn}

-- all the gaps with which the text begins
pub record SkipsGaps (text after : List ℕ) : Type 0 where
  pub gap : List Piece
  pub has_pieces : HasPieces text gap after
  pub is_gap : solid gap ≡ []
  pub no_gap : BeginsNoGap after

abbrev pub Walks : List ℕ → List ℕ → Type 0
Walks text after = (ps : List Piece) × HasPieces text ps after

-- The period follows these pieces, and the tail and the inline text follow the period.
pub record EndsFrom (from : Cursor) (pieces : List Piece) (tail : List ℕ) (inline : List (List ℕ)) : Type 0 where
  pub has_pieces : HasPieces (rest_of from) pieces (46 ∷ tail ++ followed inline)
  pub place : (records : List (List ℕ)) → IsIn records from → (before : List (List ℕ))
      × IsPlace records before (46 ∷ tail) inline

-- why no statement begins there
abbrev pub BreaksFrom : Cursor → StmtError → Type 0
BreaksFrom from NoPeriod = (ps : List Piece) × HasPieces (rest_of from) ps []
BreaksFrom from OpenComment = (ps : List Piece) × (rest : List ℕ) × HasPieces (rest_of from) ps rest × OpensComment rest
BreaksFrom from BadParens = (ps : List Piece) × (rest : List ℕ) × HasPieces (rest_of from) ps rest × BreaksPairs rest
BreaksFrom from TextAfterPeriod =
    (ps : List Piece) × (tail : List ℕ) × (inline : List (List ℕ)) × EndsFrom from ps tail inline × (IsIdle tail → ⊥)

-- the faults by their names
abbrev pub st_fault : StmtError → StFault
st_fault NoPeriod = statement.NoPeriod
st_fault OpenComment = statement.OpenComment
st_fault BadParens = statement.BadParens
st_fault TextAfterPeriod = statement.TextAfterPeriod
