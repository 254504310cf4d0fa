-- The pieces of a text without its gaps, one after the other; and the words that they are.
use Rattle.std.proofs.Common.{◌≡◌, true, List, [], ◌∷◌, ◌++◌, Option, Some, None, refl, sym, ◌∙◌, ap, subst}
use Rattle.std.specs.List.{flat_map}
use Rattle.std.proofs.lemmas.Bool.{true≢false}
use Rattle.terms.specs.Types.{Text}
use Rattle.terms.specs.Statement.{Piece, TheWord, TheList, Blank, Comment, Stray, TakesPiece, HasPieces, is_solid}
use Rattle.terms.specs.Statement.{solid, HasSolid}
use Rattle.terms.specs.CommandCuts.{BeginsNoGap}
use Rattle.terms.specs.Words.{Word, word_pieces, list_pieces, HasWords, TakesWord, BeginsNoList, BeginsNoWords}
use Rattle.terms.proofs.Pieces.{IsStop, stop_period, first_piece, no_piece, piece_only, pieces_only, pieces_behind}
use Rattle.terms.proofs.Pieces.{solid_append}

-- The pieces are determined.
pub solid_only : (text : Text) (pieces others : List Piece) → HasSolid text pieces → HasSolid text others
    → pieces ≡ others
solid_only text pieces others h g =
    let same = pieces_only text h.0 g.0 (46 ∷ h.1) (46 ∷ g.1) h.2 (stop_period h.1) g.2 (stop_period g.1) in
    h.3 ∙ ap solid same.0 ∙ sym g.3

-- Gaps do not count.
pub solid_behind : (text : Text) (gap : List Piece) (after : Text) (pieces : List Piece) → HasPieces text gap after
    → solid gap ≡ [] → HasSolid text pieces → HasSolid after pieces
solid_behind text gap after pieces g none h =
    let more = pieces_behind text h.0 (46 ∷ h.1) gap after h.2 (stop_period h.1) g in
    let same : solid h.0 ≡ solid more.0 = ap solid more.1 ∙ solid_append gap more.0 ∙ ap (λ l. l ++ solid more.0) none
    in
    (more.0, h.1, more.2, h.3 ∙ same)

solid_rest : (text : Text) (ps : List Piece) (rest : Text) (p : Piece) (after : Text) (pieces : List Piece)
    → HasPieces text ps (46 ∷ rest) → pieces ≡ solid ps → TakesPiece text p after → is_solid p ≡ true
    → (others : List Piece) × (pieces ≡ p ∷ others) × HasSolid after others
solid_rest text [] rest p after pieces h pieces_are t one = absurd
    (no_piece text p after (ap first_piece h ∙ stop_period rest) t)
solid_rest text (q ∷ qs) rest p after pieces h pieces_are t one =
    let same = piece_only text q p h.0 after h.1 t in
    let kept : solid (p ∷ qs) ≡ p ∷ solid qs = rw one refl in (
      solid qs,
      pieces_are ∙ ap (λ x. solid (x ∷ qs)) same.0 ∙ kept,
      (qs, rest, subst (λ t. HasPieces t qs (46 ∷ rest)) same.1 h.2, refl),
    )

-- The piece that the text begins with is the first.
pub solid_first : (text : Text) (p : Piece) (after : Text) (pieces : List Piece) → HasSolid text pieces
    → TakesPiece text p after → is_solid p ≡ true
    → (others : List Piece) × (pieces ≡ p ∷ others) × HasSolid after others
solid_first text p after pieces h t one = solid_rest text h.0 h.1 p after pieces h.2 h.3 t one

stops_at : (text : Text) (ps : List Piece) (rest : Text) (pieces : List Piece) → HasPieces text ps (46 ∷ rest)
    → pieces ≡ solid ps → IsStop text → (pieces ≡ []) × (text ≡ 46 ∷ rest)
stops_at text [] rest pieces h pieces_are stop = (pieces_are, h)
stops_at text (p ∷ ps) rest pieces h pieces_are stop = absurd (no_piece text p h.0 stop h.1)

-- Where no piece begins, none is left, and the period comes.
pub solid_end : (text : Text) (pieces : List Piece) → HasSolid text pieces → IsStop text
    → (pieces ≡ []) × ((after : Text) × (text ≡ 46 ∷ after))
solid_end text pieces h stop =
    let e = stops_at text h.0 h.1 pieces h.2 h.3 stop in
    (e.0, (h.1, e.1))

begins_no_list : (text : Text) (ps : List Piece) (rest : Text) → HasPieces text ps rest → BeginsNoGap text
    → ((list after : Text) → TakesPiece text (TheList list) after → ⊥) → BeginsNoList (solid ps)
begins_no_list text [] rest h no_gap no_list = tt
begins_no_list text (TheWord word ∷ ps) rest h no_gap no_list = tt
begins_no_list text (TheList list ∷ ps) rest h no_gap no_list = absurd (no_list list h.0 h.1)
begins_no_list text (Blank ∷ ps) rest h no_gap no_list = absurd (true≢false (sym (no_gap Blank h.0 h.1)))
begins_no_list text (Comment ∷ ps) rest h no_gap no_list = absurd (true≢false (sym (no_gap Comment h.0 h.1)))
begins_no_list text (Stray b ∷ ps) rest h no_gap no_list = tt

-- A text that begins with no gap and no list has no list first.
pub solid_no_list : (text : Text) (pieces : List Piece) → HasSolid text pieces → BeginsNoGap text
    → ((list after : Text) → TakesPiece text (TheList list) after → ⊥) → BeginsNoList pieces
solid_no_list text pieces h no_gap no_list = subst BeginsNoList (sym h.3)
    (begins_no_list text h.0 (46 ∷ h.1) h.2 no_gap no_list)

-- Words are taken one by one.
pub words_more : (pieces : List Piece) (w : Word) (rest : List Piece) (ws : List Word) → TakesWord pieces w rest
    → HasWords rest ws → HasWords pieces (w ∷ ws)
words_more pieces w rest ws t h = t.pieces_are ∙ ap (λ r. word_pieces w ++ r) h

no_words_nil : (w : Word) (rest : List Piece) → word_pieces w ++ rest ≡ [] → ⊥
no_words_nil w rest e = cc (e)

no_list_word : (k word : Text) (rest others : List Piece) → TheList k ∷ rest ≡ TheWord word ∷ others → ⊥
no_list_word k word rest others e = cc (e)

same_lists : (a b : Text) (k l : Option Text) (rest : List Piece) (vs : List Word)
    → TheWord a ∷ (list_pieces k ++ rest) ≡ TheWord b ∷ (list_pieces l ++ flat_map word_pieces vs)
    → (k ≡ None → BeginsNoList rest)
    → (more : List Word) × (record { word = b; list = l } ∷ vs ≡ record { word = a; list = k } ∷ more)
    × HasWords rest more
same_lists a b None None rest vs e ends = (vs, cc (e), cc (e))
same_lists a b None (Some l) rest vs e ends =
    let rest_is : rest ≡ TheList l ∷ flat_map word_pieces vs = cc (e) in
    absurd (subst BeginsNoList rest_is (ends refl))
same_lists a b (Some k) None rest [] e ends = absurd (cc (e))
same_lists a b (Some k) None rest (v ∷ vs) e ends =
    let heads : TheList k ∷ rest ≡ word_pieces v ++ flat_map word_pieces vs = cc (e) in
    absurd (no_list_word k v.word rest (list_pieces v.list ++ flat_map word_pieces vs) heads)
same_lists a b (Some k) (Some l) rest vs e ends = (vs, cc (e), cc (e))

same_word : (w v : Word) (rest : List Piece) (vs : List Word)
    → word_pieces w ++ rest ≡ word_pieces v ++ flat_map word_pieces vs → (w.list ≡ None → BeginsNoList rest)
    → (more : List Word) × (v ∷ vs ≡ w ∷ more) × HasWords rest more
same_word w v rest vs e ends = same_lists w.word v.word w.list v.list rest vs e ends

-- The word that the pieces begin with is the first of any words that they are.
pub words_first : (pieces : List Piece) (w : Word) (rest : List Piece) (ws : List Word) → TakesWord pieces w rest
    → HasWords pieces ws → (more : List Word) × (ws ≡ w ∷ more) × HasWords rest more
words_first pieces w rest [] t h = absurd (no_words_nil w rest (sym t.pieces_are ∙ h))
words_first pieces w rest (v ∷ vs) t h = same_word w v rest vs (sym t.pieces_are ∙ h) t.ends

-- Pieces that begin with no word are no words.
pub no_words : (pieces : List Piece) (ws : List Word) → BeginsNoWords pieces → HasWords pieces ws → ⊥
no_words [] ws b h = b
no_words (TheWord word ∷ ps) ws b h = b
no_words (TheList list ∷ ps) [] b h = cc (h)
no_words (TheList list ∷ ps) (w ∷ ws) b h = no_list_word list w.word ps (list_pieces w.list ++ flat_map word_pieces ws)
    h
no_words (Blank ∷ ps) [] b h = cc (h)
no_words (Blank ∷ ps) (w ∷ ws) b h = cc (h)
no_words (Comment ∷ ps) [] b h = cc (h)
no_words (Comment ∷ ps) (w ∷ ws) b h = cc (h)
no_words (Stray c ∷ ps) [] b h = cc (h)
no_words (Stray c ∷ ps) (w ∷ ws) b h = cc (h)
