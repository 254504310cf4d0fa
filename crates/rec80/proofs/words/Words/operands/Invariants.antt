use Rattle.std.proofs.Common.{List, length}
use Rattle.terms.specs.Statement.{Piece, HasSolid}
use Rattle.rec80.specs.Views.{left_of, words_of}
use Rattle.rec80.proofs.WordsAmong.{Reads}
use Rattle.rec80.proofs.words.Words.operands.Given as goal

abbrev pub invariant-loop-found : goal.invariant-loop-found
invariant-loop-found l = (pieces : List Piece) → HasSolid (left_of l.self) pieces
    → Reads (left_of l.left) (words_of l.read.words.items) l.read.only_words pieces

abbrev pub decreases-loop-found : goal.decreases-loop-found
decreases-loop-found l = length (left_of l.left)
