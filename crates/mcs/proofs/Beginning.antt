-- The word that a statement begins with.
use Rattle.std.proofs.Common.{◌≡◌, ◌≢◌, List, [], ◌∷◌, ◌++◌, Option, sym, ◌∙◌, subst}
use Rattle.terms.specs.declared.statement_words.StatementWord.{StatementWord}
use Rattle.terms.specs.Types.{Text, Lines}
use Rattle.terms.specs.Statement.{Piece, TheWord, IsStatement}
use Rattle.terms.specs.Words.{Word, list_pieces, TakesWord, BeginsNoWords}
use Rattle.terms.specs.Statements.{statement_text}
use Rattle.terms.specs.Ptfin.{these_parts, HasParts, IsUnknown}

-- no word stands first where nothing does
pub no_pieces : (pieces : List Piece) (w : Word) (rest : List Piece) → pieces ≡ [] → TakesWord pieces w rest → ⊥
no_pieces pieces w rest none t = cc (none, t.pieces_are)

pub unknown_end : (records : Lines) (pieces : List Piece) (inline : Lines) → IsStatement records pieces inline
    → pieces ≡ [] → IsUnknown records
unknown_end records pieces inline s none = record {
  pieces = pieces;
  inline = inline;
  statement = s;
  unknown = λ w own rest t. no_pieces pieces (record { word = statement_text w; list = own }) rest none t;
}

pub unknown_bad : (records : Lines) (pieces : List Piece) (inline : Lines) → IsStatement records pieces inline
    → BeginsNoWords pieces → IsUnknown records
unknown_bad records pieces inline s bad = record {
  pieces = pieces;
  inline = inline;
  statement = s;
  unknown = λ w own rest t. subst BeginsNoWords t.pieces_are bad;
}

first_word : (a b : Text) (k l : Option Text) (rest more : List Piece)
    → TheWord a ∷ (list_pieces k ++ rest) ≡ TheWord b ∷ (list_pieces l ++ more) → a ≡ b
first_word a b k l rest more e = cc (e)

pub unknown_word : (records : Lines) (pieces : List Piece) (inline : Lines) (first : Word) (rest : List Piece)
    → IsStatement records pieces inline → TakesWord pieces first rest
    → ((w : StatementWord) → statement_text w ≢ first.word) → IsUnknown records
unknown_word records pieces inline first rest s t other = record {
  pieces = pieces;
  inline = inline;
  statement = s;
  unknown = λ w own more u. other w (first_word (statement_text w) first.word own first.list more rest
      (sym u.pieces_are ∙ t.pieces_are));
}

pub known_word : (records : Lines) (pieces : List Piece) (inline : Lines) (first : Word) (rest : List Piece)
    (w : StatementWord) → IsStatement records pieces inline → TakesWord pieces first rest
    → statement_text w ≡ first.word → HasParts records (these_parts w first.list rest inline)
known_word records pieces inline first rest w s t is = record {
  pieces = pieces;
  statement = s;
  begins = subst (λ x. TakesWord pieces (record { word = x; list = first.list }) rest) (sym is) t;
}
