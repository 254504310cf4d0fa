-- Words and pieces, read one by one.
use Rattle.std.proofs.Common.{◌≡◌, true, List, [], ◌∷◌, Some, None, refl, ◌∙◌, ap}
use Rattle.terms.specs.Types.{Text}
use Rattle.terms.specs.Statement.{Piece, TheWord, TheList, TakesPiece, is_solid, HasSolid}
use Rattle.terms.specs.Words.{TakesWord, BeginsNoWords}
use Rattle.terms.proofs.Pieces.{IsStop, stop_comment, stop_pairs, first_piece}
use Rattle.terms.proofs.Solids.{solid_behind, solid_first, solid_end, solid_no_list}
use Rattle.rec80.specs.declared.piece.Piece.{Piece as Read}
use Rattle.rec80.specs.declared.piece.Piece.TheVariants.{Word as ReadWord, List as ReadList, Stray as ReadStray}
use Rattle.rec80.specs.declared.piece.Stop.{Stop}
use Rattle.rec80.specs.declared.piece.Stop.TheVariants.{End, Period, OpenComment, BadParens}
use Rattle.rec80.specs.Pieces.{StopsAt, piece_of}
use Rattle.rec80.specs.Walks.{SkipsGaps}

pub is_stop : (stop : Stop) (text : Text) → StopsAt stop text → IsStop text
is_stop End text s = ap first_piece s
is_stop Period text s = ap first_piece s.1
is_stop OpenComment text s = stop_comment text s
is_stop BadParens text s = stop_pairs text s

piece_solid : (p : Read) → is_solid (piece_of p) ≡ true
piece_solid (ReadWord word) = refl
piece_solid (ReadList list) = refl
piece_solid (ReadStray b) = refl

pub reads_piece : (text at next : Text) (p : Read) (pieces : List Piece) → SkipsGaps text at
    → TakesPiece at (piece_of p) next → HasSolid text pieces
    → (rest : List Piece) × (pieces ≡ piece_of p ∷ rest) × HasSolid next rest
reads_piece text at next p pieces s t h =
    solid_first at (piece_of p) next pieces (solid_behind text s.gap at pieces s.has_pieces s.is_gap h) t
    (piece_solid p)

pub reads_end : (text at : Text) (stop : Stop) (pieces : List Piece) → SkipsGaps text at → StopsAt stop at
    → HasSolid text pieces → pieces ≡ []
reads_end text at stop pieces s stops h =
    (solid_end at pieces (solid_behind text s.gap at pieces s.has_pieces s.is_gap h) (is_stop stop at stops)).0

pub reads_word : (text at next behind after word list : Text) (pieces : List Piece) → SkipsGaps text at
    → TakesPiece at (TheWord word) next → SkipsGaps next behind → TakesPiece behind (TheList list) after
    → HasSolid text pieces
    → (rest : List Piece) × TakesWord pieces (record { word = word; list = Some list }) rest × HasSolid after rest
reads_word text at next behind after word list pieces s t s' u h =
    let first = solid_first at (TheWord word) next pieces (solid_behind text s.gap at pieces s.has_pieces s.is_gap h) t
    refl in
    let second = solid_first behind (TheList list) after first.0
    (solid_behind next s'.gap behind first.0 s'.has_pieces s'.is_gap first.2) u refl in (
      second.0,
      record { pieces_are = first.1 ∙ ap (λ ps. TheWord word ∷ ps) second.1; ends = λ e. absurd (cc (e)) },
      second.2,
    )

pub reads_plain : (text at next behind word : Text) (pieces : List Piece) → SkipsGaps text at
    → TakesPiece at (TheWord word) next → SkipsGaps next behind
    → ((list after : Text) → TakesPiece behind (TheList list) after → ⊥) → HasSolid text pieces
    → (rest : List Piece) × TakesWord pieces (record { word = word; list = None }) rest × HasSolid behind rest
reads_plain text at next behind word pieces s t s' none h =
    let first = solid_first at (TheWord word) next pieces (solid_behind text s.gap at pieces s.has_pieces s.is_gap h) t
    refl in
    let rest = solid_behind next s'.gap behind first.0 s'.has_pieces s'.is_gap first.2 in
    (first.0, record { pieces_are = first.1; ends = λ e. solid_no_list behind first.0 rest s'.no_gap none }, rest)

no_word : (p : Read) (pieces rest : List Piece) → ((word : _) → p ≡ ReadWord word → ⊥) → pieces ≡ piece_of p ∷ rest
    → BeginsNoWords pieces
no_word (ReadWord word) pieces rest other pieces_are = absurd (other word refl)
no_word (ReadList list) pieces rest other pieces_are = rw pieces_are tt
no_word (ReadStray b) pieces rest other pieces_are = rw pieces_are tt

pub reads_no_word : (text at next : Text) (p : Read) (pieces : List Piece) → SkipsGaps text at
    → TakesPiece at (piece_of p) next → ((word : _) → p ≡ ReadWord word → ⊥) → HasSolid text pieces
    → BeginsNoWords pieces
reads_no_word text at next p pieces s t other h =
    let r = reads_piece text at next p pieces s t h in
    no_word p pieces r.0 other r.1
