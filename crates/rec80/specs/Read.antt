-- The operands that are read from a statement or a command.
use Rattle.std.specs.Prelude.{◌≡◌, ◌↔◌, List, [], ◌∷◌, IsTrue}
use Rattle.terms.specs.Statement.{Piece, TheWord}
use Rattle.terms.specs.Words.{Word, HasWords}
use Rattle.terms.specs.Operands.{leading_list}
use Rattle.rec80.specs.declared.operands.Operands.{Operands}
use Rattle.rec80.specs.Views.{words_of}

-- the words among the pieces, whatever else there is, each with the list that directly follows it
abbrev pub words_among : List Piece → List Word
words_among [] = []
words_among (TheWord text ∷ ps) = record { word = text; list = leading_list ps } ∷ words_among ps
words_among (_ ∷ ps) = words_among ps

-- The operands are those of the pieces: the words among them, and whether there is nothing else.
pub record IsRead (pieces : List Piece) (operands : Operands) : Type 0 where
  pub words_are : words_of operands.words.items ≡ words_among pieces
  pub only_words_is : IsTrue operands.only_words ↔ HasWords pieces (words_among pieces)
