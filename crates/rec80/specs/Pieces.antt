-- The pieces of this crate as those of the grammar, and why no piece begins at a place.
use Rattle.std.specs.Prelude.{◌≡◌, ℕ, false, List, [], ◌∷◌}
use Rattle.terms.specs.Statement.{TakesPiece, TheWord, TheList, is_solid, OpensComment, BreaksPairs}
use Rattle.terms.specs.Statement as grammar
use Rattle.rec80.specs.declared.piece.Piece.{Piece}
use Rattle.rec80.specs.declared.piece.Piece.TheVariants.{Word, List as ListPiece, Stray}
use Rattle.rec80.specs.declared.piece.Stop.{Stop}
use Rattle.rec80.specs.declared.piece.Stop.TheVariants.{End, Period, OpenComment, BadParens}
use Rattle.rec80.specs.Cursors.{text_of}

abbrev pub piece_of : Piece → grammar.Piece
piece_of (Word word) = TheWord word.now
piece_of (ListPiece list) = TheList (text_of list)
piece_of (Stray b) = grammar.Stray b

-- one blank, comma or comment
pub record TakesGap (text after : List ℕ) : Type 0 where
  pub piece : grammar.Piece
  pub takes : TakesPiece text piece after
  pub is_gap : is_solid piece ≡ false

-- what the text begins with instead of a piece
abbrev pub StopsAt : Stop → List ℕ → Type 0
StopsAt End text = text ≡ []
StopsAt Period text = (after : List ℕ) × (text ≡ 46 ∷ after)
StopsAt OpenComment text = OpensComment text
StopsAt BadParens text = BreaksPairs text
