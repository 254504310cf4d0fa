-- Each piece of a text takes a byte or more.
use Rattle.std.specs.Prelude.{if◌then◌else◌, ◌==◌, ◌&&◌, slice_index}
use Rattle.std.proofs.Common.{◌≡◌, ◌≤◌, ◌<◌, Bool, true, false, List, [], ◌∷◌, length, drop, Some, ap, arith}
use Rattle.std.proofs.Common.{length-append}
use Rattle.std.proofs.lemmas.List.{length-drop}
use Rattle.terms.specs.Types.{Text}
use Rattle.terms.specs.Statement.{Piece, TheWord, TheList, Blank, Comment, Stray, TakesPiece, HasPieces, behind_close}

close_step : (bs after : Text) (closes : Bool) → (behind_close bs ≡ Some after → length after ≤ length bs)
    → (if closes then Some (drop 1 bs) else behind_close bs) ≡ Some after → length after ≤ length bs
close_step bs after true more e =
    let is : drop 1 bs ≡ after = cc (e) in
    omega (arith, ap length is, length-drop 1 bs)
close_step bs after false more e = more e

close_shorter : (text after : Text) → behind_close text ≡ Some after → length after ≤ length text
close_shorter [] after e = absurd (cc (e))
close_shorter (b ∷ bs) after e =
    let less : length after ≤ length bs = close_step bs after (b == 42 && slice_index bs 0 == 47)
    (close_shorter bs after) e in
    omega (arith, less)

pub piece_shorter : (text : Text) (p : Piece) (after : Text) → TakesPiece text p after → length after < length text
piece_shorter text (TheWord word) after t = omega (arith, t.1.0, ap length t.0, length-append word after)
piece_shorter text (TheList list) after t = omega (arith, ap length t.0, length-append list (41 ∷ after))
piece_shorter text Blank after t = omega (arith, ap length t.1)
piece_shorter text Comment after t = omega (arith, ap length t.1, close_shorter t.0 after t.2)
piece_shorter text (Stray b) after t = omega (arith, ap length t.0)

pub pieces_shorter : (text : Text) (ps : List Piece) (after : Text) → HasPieces text ps after
    → length after ≤ length text
pieces_shorter text [] after h = omega (arith, ap length h)
pieces_shorter text (p ∷ ps) after h = omega (arith, piece_shorter text p h.0 h.1, pieces_shorter h.0 ps after h.2)
