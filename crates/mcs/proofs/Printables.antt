-- What records have is printable, and so is each list of a statement.
use Rattle.std.proofs.Common.{◌≡◌, Bool, true, false, List, [], ◌∷◌, ◌++◌, drop, Option, Some, None, sym, subst, cond}
use Rattle.std.proofs.Common.{arith, ◌&&◌, ◌==◌}
use Rattle.std.specs.Prelude.{All, IfSome, slice_index, if◌then◌else◌}
use Rattle.std.specs.List.{flat_map}
use Rattle.std.specs.Str.{bytes_eq}
use Rattle.std.proofs.lemmas.List.Elements.{All-nil, All-cons, All-head, All-tail, All-append, All-take, All-filter}
use Rattle.terms.proofs.Each.{All_front, All_back}
use Rattle.terms.specs.Types.{Text, Lines}
use Rattle.terms.specs.Records.{IsPrintable, IsRecord, front}
use Rattle.terms.specs.Statement.{Piece, TheWord, TheList, Blank, Comment, Stray, followed, joined, behind_close}
use Rattle.terms.specs.Statement.{TakesPiece, HasPieces, is_solid}
use Rattle.terms.specs.Statements.{statement_text}
use Rattle.terms.specs.Words.{Word, word_pieces, list_pieces, HasWords}
use Rattle.terms.specs.Operands.{operand}
use Rattle.terms.specs.Ptfin.{Parts, HasParts}
use Rattle.mcs.specs.Holds.{IsPrintablePiece, ArePrintable}

own_printable : (list : Option Text) (more : List Piece) → ArePrintable (list_pieces list ++ more)
    → IfSome list (All IsPrintable)
own_printable None more h = tt
own_printable (Some text) more h = All-head IsPrintablePiece (TheList text) more h

-- what an operand's list must be
abbrev pub HasPrintable : Option Word → Type 0
HasPrintable found = IfSome found (λ w. IfSome w.list (All IsPrintable))

cond_printable : (w : Word) (found : Option Word) (b : Bool) → IfSome w.list (All IsPrintable) → HasPrintable found
    → HasPrintable (cond b (Some w) found)
cond_printable w found true own more = own
cond_printable w found false own more = more

found_printable : (name : Text) (ws : List Word) → ArePrintable (flat_map word_pieces ws)
    → HasPrintable (operand name ws)
found_printable name [] h = tt
found_printable name (w ∷ ws) h =
    let more = All-tail IsPrintablePiece (TheWord w.word) (list_pieces w.list ++ flat_map word_pieces ws) h in
    cond_printable w (operand name ws) (bytes_eq w.word name) (own_printable w.list (flat_map word_pieces ws) more)
    (found_printable name ws (All_back IsPrintablePiece (list_pieces w.list) (flat_map word_pieces ws) more))

-- An operand of a printable statement has a printable list.
pub operand_printable : (rest : List Piece) (ws : List Word) (name : Text) → ArePrintable rest → HasWords rest ws
    → HasPrintable (operand name ws)
operand_printable rest ws name h words = found_printable name ws (subst ArePrintable words h)

followed_printable : (records : Lines) → All IsRecord records → All IsPrintable (followed records)
followed_printable [] h = All-nil IsPrintable
followed_printable (r ∷ rs) h =
    let line = All-take IsPrintable 72 r (All-head IsRecord r rs h).1 in
    All-append IsPrintable (32 ∷ front r) (followed rs) (All-cons IsPrintable 32 (front r)
    (omega (arith), omega (arith)) line) (followed_printable rs (All-tail IsRecord r rs h))

joined_printable : (records : Lines) → All IsRecord records → All IsPrintable (joined records)
joined_printable [] h = All-nil IsPrintable
joined_printable (r ∷ rs) h =
    All-append IsPrintable (front r) (followed rs) (All-take IsPrintable 72 r (All-head IsRecord r rs h).1)
    (followed_printable rs (All-tail IsRecord r rs h))

behind_second : (text after : Text) → All IsPrintable text → drop 1 text ≡ after → All IsPrintable after
behind_second [] after h e = subst (All IsPrintable) e h
behind_second (b ∷ text) after h e = subst (All IsPrintable) e (All-tail IsPrintable b text h)

close_step : (t : Bool) (bs after : Text) → All IsPrintable bs → (behind_close bs ≡ Some after → All IsPrintable after)
    → (if t then Some (drop 1 bs) else behind_close bs) ≡ Some after → All IsPrintable after
close_step true bs after h more e = behind_second bs after h (cc (e))
close_step false bs after h more e = more e

close_printable : (inside after : Text) → All IsPrintable inside → behind_close inside ≡ Some after
    → All IsPrintable after
close_printable [] after h e = absurd (cc (e))
close_printable (b ∷ bs) after h e =
    let tail = All-tail IsPrintable b bs h in
    close_step (b == 42 && slice_index bs 0 == 47) bs after tail (λ more. close_printable bs after tail more) e

-- what follows a piece, and the piece itself
piece_printable : (text : Text) (p : Piece) (after : Text) → TakesPiece text p after → All IsPrintable text
    → IsPrintablePiece p × All IsPrintable after
piece_printable text (TheWord word) after t h = (tt, All_back IsPrintable word after (subst (All IsPrintable) t.0 h))
piece_printable text (TheList list) after t h =
    let inside = All-tail IsPrintable 40 (list ++ 41 ∷ after) (subst (All IsPrintable) t.0 h) in (
      All_front IsPrintable list (41 ∷ after) inside,
      All-tail IsPrintable 41 after
          (All_back IsPrintable list (41 ∷ after) inside),
    )
piece_printable text Blank after t h = (tt, All-tail IsPrintable t.0 after (subst (All IsPrintable) t.1 h))
piece_printable text Comment after t h =
    let inside = All-tail IsPrintable 42 t.0 (All-tail IsPrintable 47 (42 ∷ t.0) (subst (All IsPrintable) t.1 h)) in
    (tt, close_printable t.0 after inside t.2)
piece_printable text (Stray b) after t h = (tt, All-tail IsPrintable b after (subst (All IsPrintable) t.0 h))

pieces_printable : (text : Text) (ps : List Piece) (rest : Text) → HasPieces text ps rest → All IsPrintable text
    → ArePrintable ps
pieces_printable text [] rest h printable = All-nil IsPrintablePiece
pieces_printable text (p ∷ ps) rest h printable =
    let first = piece_printable text p h.0 h.1 printable in
    All-cons IsPrintablePiece p ps first.0 (pieces_printable h.0 ps rest h.2 first.1)

-- A statement in records is printable.
pub known_printable : (records : Lines) (p : Parts)
    → All IsRecord records → HasParts records p → ArePrintable p.rest
known_printable records p h known =
    let s = known.statement in
    let pieces = pieces_printable (joined records) s.0 _ s.2.has_pieces (joined_printable records h) in
    let solid_ones : ArePrintable known.pieces = subst ArePrintable (sym s.4)
    (All-filter is_solid IsPrintablePiece s.0 pieces) in
    All_back IsPrintablePiece (word_pieces (record { word = statement_text p.word; list = p.own })) p.rest
    (subst ArePrintable known.begins.pieces_are solid_ones)
