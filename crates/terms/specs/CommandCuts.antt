-- The records of a command file, cut after each command.
use Rattle.std.specs.Prelude.{◌≡◌, ◌+◌, ◌<◌, ℕ, true, List, [], ◌++◌, length}
use Rattle.terms.specs.Types.{Text}
use Rattle.terms.specs.Statement.{Piece, TakesPiece, HasPieces, is_solid, solid, joined, followed, IsPlace, Ends}
use Rattle.terms.specs.Statement.{IsIdle, StFault, BreaksOff}

-- the text does not begin with a blank, a comma or a whole comment
abbrev pub BeginsNoGap : Text → Type 0
BeginsNoGap text = (p : Piece) (after : Text) → TakesPiece text p after → is_solid p ≡ true

-- The records count from n. After the gap, in the record of that number, something else begins.
pub record BeginsBehind (n : ℕ) (records : List (List ℕ)) (gap : List Piece) (number : ℕ) : Type 0 where
  pub before : List (List ℕ)
  pub line : Text
  pub later : List (List ℕ)
  pub place : IsPlace records before line later
  pub is_gap : solid gap ≡ []
  pub has_pieces : HasPieces (joined records) gap (line ++ followed later)
  pub some : 0 < length line
  pub no_gap : BeginsNoGap (line ++ followed later)
  pub number_is : number ≡ n + length before

-- The records, which count from n, begin with a command of these pieces. It begins in the record of that number and
-- ends with its period, and only gaps follow the period in its record. The rest counts from m.
pub record TakesCommand (n : ℕ) (records : List (List ℕ)) (pieces : List Piece) (number : ℕ) (m : ℕ)
    (rest : List (List ℕ)) : Type 0 where
  pub gap : List Piece
  pub own : List Piece
  pub tail : Text
  pub begins : BeginsBehind n records gap number
  pub ends : Ends records (gap ++ own) tail rest
  pub idle : IsIdle tail
  pub pieces_are : pieces ≡ solid own
  pub next_is : m + length rest ≡ n + length records

-- The form of the command that begins in the record of that number is bad, or a comment is not closed there.
pub record IsCutFault (n : ℕ) (records : List (List ℕ)) (number : ℕ) (why : StFault) : Type 0 where
  pub gap : List Piece
  pub own : List Piece
  pub begins : BeginsBehind n records gap number
  pub breaks_off : BreaksOff records (gap ++ own) why
