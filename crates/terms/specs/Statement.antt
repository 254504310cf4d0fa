-- A statement in its records: the pieces of its text, the period that ends it, and its faults.
use Rattle.std.specs.Prelude.{◌≡◌, ◌≢◌, ℕ, Bool, true, false, List, [], ◌∷◌, ◌++◌, length, drop, Option, Some, None}
use Rattle.std.specs.Prelude.{All, filter, not, ◌⊎◌, slice_index, if◌then◌else◌, IsTrue, ◌&&◌, ◌||◌, ◌==◌, ◌<◌}
use Rattle.std.specs.List.{flat_map}
use Rattle.terms.specs.Bytes.{blank, paren_open, paren_close, star, comma, period, slash}
use Rattle.terms.specs.Types.{Text}
use Rattle.terms.specs.Records.{front}
use Rattle.terms.specs.Forms.{is_word_byte}

-- Columns 1 to 72 of the records, each after one blank.
abbrev pub followed : List (List ℕ) → Text
followed records = flat_map (λ r. blank ∷ front r) records

-- Columns 1 to 72 of the records, with one blank between two records.
abbrev pub joined : List (List ℕ) → Text
joined [] = []
joined (r ∷ rs) = front r ++ followed rs

-- A part of a text outside parentheses: a word, parentheses with their contents, a blank or a comma, a comment, or any
-- other character.
pub data Piece : Type 0 where
  TheWord : Text → Piece
  TheList : Text → Piece
  Blank : Piece
  Comment : Piece
  Stray : ℕ → Piece

-- a comma counts as a blank
abbrev pub is_blank : ℕ → Bool
is_blank b = b == blank || b == comma

-- a character that belongs to no word and is not a blank, a parenthesis or a period
abbrev pub is_stray : ℕ → Bool
is_stray b = not (is_word_byte b || is_blank b || b == paren_open || b == paren_close || b == period)

-- one word character or more
abbrev pub IsWord : Text → Type 0
IsWord text = (0 < length text) × All (λ b. IsTrue (is_word_byte b)) text

-- the text does not begin with a word character
abbrev pub BeginsNoWord : Text → Type 0
BeginsNoWord [] = Unit {0}
BeginsNoWord (b ∷ bs) = is_word_byte b ≡ false

-- What follows the first `*/`, if there is one.
abbrev pub behind_close : Text → Option Text
behind_close [] = None
behind_close (b ∷ bs) = if b == star && slice_index bs 0 == slash then Some (drop 1 bs) else behind_close bs

-- The text after the parenthesis that closes a list, inside which one more may be open. None if there is no such
-- parenthesis, or if a third one opens.
abbrev pub behind_list : Bool → Text → Option Text
behind_list inner [] = None
behind_list inner (b ∷ bs) =
    if b == paren_open then (if inner then None else behind_list true bs)
    else if b == paren_close then (if inner then behind_list false bs else Some bs)
    else behind_list inner bs

-- The text begins with the piece, which is as long as it can be. Inside parentheses `/*` is plain text.
abbrev pub TakesPiece : Text → Piece → Text → Type 0
TakesPiece text (TheWord word) after = (text ≡ word ++ after) × IsWord word × BeginsNoWord after
TakesPiece text (TheList list) after = (text ≡ paren_open ∷ list ++ paren_close ∷ after)
    × (behind_list false (list ++ paren_close ∷ after) ≡ Some after)
TakesPiece text Blank after = (b : ℕ) × (text ≡ b ∷ after) × IsTrue (is_blank b)
TakesPiece text Comment after = (inside : Text) × (text ≡ slash ∷ star ∷ inside) × (behind_close inside ≡ Some after)
TakesPiece text (Stray b) after = (text ≡ b ∷ after) × IsTrue (is_stray b) × (b ≡ slash → slice_index after 0 ≢ star)

-- The text begins with these pieces, and the rest follows. None of the pieces is a period.
abbrev pub HasPieces : Text → List Piece → Text → Type 0
HasPieces text [] rest = text ≡ rest
HasPieces text (p ∷ ps) rest = (after : Text) × TakesPiece text p after × HasPieces after ps rest

-- blanks, commas and comments are gaps, the others are not
abbrev pub is_solid : Piece → Bool
is_solid (TheWord word) = true
is_solid (TheList list) = true
is_solid Blank = false
is_solid Comment = false
is_solid (Stray b) = true

-- the pieces without the gaps
abbrev pub solid : List Piece → List Piece
solid ps = filter is_solid ps

-- only blanks, commas and whole comments
abbrev pub IsIdle : Text → Type 0
IsIdle text = (ps : List Piece) × HasPieces text ps [] × (solid ps ≡ [])

-- Up to its first period the text has these pieces, the gaps left out.
abbrev pub HasSolid : Text → List Piece → Type 0
HasSolid text pieces = (ps : List Piece) × (rest : Text) × HasPieces text ps (period ∷ rest) × (pieces ≡ solid ps)

-- A place in the records: after these ones it is in a record whose columns 1 to 72 end in the line, and the later ones
-- follow.
pub record IsPlace (records before : List (List ℕ)) (line : Text) (later : List (List ℕ)) : Type 0 where
  pub at : List ℕ
  pub head : Text
  pub records_are : records ≡ before ++ at ∷ later
  pub line_is : front at ≡ head ++ line

-- The pieces go up to the first period. The tail follows it in its record, and the later records are inline text.
pub record Ends (records : List (List ℕ)) (pieces : List Piece) (tail : Text) (inline : List (List ℕ)) : Type 0 where
  pub before : List (List ℕ)
  pub place : IsPlace records before (period ∷ tail) inline
  pub has_pieces : HasPieces (joined records) pieces (period ∷ tail ++ followed inline)

-- The records are a statement of these pieces, the gaps left out, and its inline text.
abbrev pub IsStatement : List (List ℕ) → List Piece → List (List ℕ) → Type 0
IsStatement records pieces inline =
    (ps : List Piece) × (tail : Text) × Ends records ps tail inline × IsIdle tail × (pieces ≡ solid ps)

-- NoPeriod: nothing ends it. OpenComment: a comment is not closed. BadParens: a parenthesis lacks its partner, or there
-- is a third level of them. TextAfterPeriod: more than gaps follow its period.
pub data StFault : Type 0 where
  NoPeriod : StFault
  OpenComment : StFault
  BadParens : StFault
  TextAfterPeriod : StFault

-- A comment begins and is not closed.
abbrev pub OpensComment : Text → Type 0
OpensComment text = (inside : Text) × (text ≡ slash ∷ star ∷ inside) × (behind_close inside ≡ None)

-- There is a closing parenthesis that none opened, or an opening one without a good closing one.
abbrev pub BreaksPairs : Text → Type 0
BreaksPairs text = (after : Text)
    × ((text ≡ paren_close ∷ after) ⊎ ((text ≡ paren_open ∷ after) × (behind_list false after ≡ None)))

-- After these pieces the records have no period, an open comment or bad parentheses. Or text follows their period.
abbrev pub BreaksOff : List (List ℕ) → List Piece → StFault → Type 0
BreaksOff records ps NoPeriod = HasPieces (joined records) ps []
BreaksOff records ps OpenComment = (rest : Text) × HasPieces (joined records) ps rest × OpensComment rest
BreaksOff records ps BadParens = (rest : Text) × HasPieces (joined records) ps rest × BreaksPairs rest
BreaksOff records ps TextAfterPeriod = (tail : Text) × (inline : List (List ℕ)) × Ends records ps tail inline
    × (IsIdle tail → ⊥)

-- the fault of the records, after good pieces
abbrev pub IsStFault : List (List ℕ) → StFault → Type 0
IsStFault records why = (ps : List Piece) × BreaksOff records ps why
