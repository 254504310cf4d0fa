-- A text begins with one piece at most, so its pieces are determined.
use Rattle.std.specs.Prelude.{◌==◌, ◌&&◌, ◌||◌, slice_index, IsTrue, unwrap_or, All}
use Rattle.std.proofs.Common.{◌≡◌, ◌≢◌, ◌-◌, ℕ, Bool, true, false, List, [], ◌∷◌, ◌++◌, length, take, drop, Option}
use Rattle.std.proofs.Common.{Some, None, refl, sym, ◌∙◌, ap, subst, arith, length-append, inl, inr, ◌⊎◌}
use Rattle.std.specs.List.{prefix_len}
use Rattle.std.proofs.lemmas.Bool.{eqb-true, or_parts, or_cases, or_from, not-true, false_from_ne_true, and_parts}
use Rattle.std.proofs.lemmas.List.{take_at, drop_at}
use Rattle.std.proofs.lemmas.List.Elements.{All-head, All-tail, filter-append}
use Rattle.terms.specs.Types.{Text}
use Rattle.terms.specs.Forms.{is_word_byte}
use Rattle.terms.specs.Statement.{Piece, TheWord, TheList, Blank, Comment, Stray, TakesPiece, HasPieces, is_blank}
use Rattle.terms.specs.Statement.{is_stray, is_solid, solid, behind_close, behind_list, IsWord, BeginsNoWord}
use Rattle.terms.specs.Statement.{OpensComment, BreaksPairs, IsIdle}
use Rattle.terms.specs.CommandCuts.{BeginsNoGap}

abbrev list_piece : Text → Option Text → Option (Piece × Text)
list_piece bs None = None
list_piece bs (Some after) = Some (TheList (take (length bs - length after - 1) bs), after)

abbrev comment_piece : Option Text → Option (Piece × Text)
comment_piece None = None
comment_piece (Some after) = Some (Comment, after)

abbrev word_piece : Text → Option (Piece × Text)
word_piece text = Some (TheWord (take (prefix_len is_word_byte text) text), drop (prefix_len is_word_byte text) text)

-- by whether a word, a blank, a list, a comment or an end comes first
abbrev chosen : Bool → Bool → Bool → Bool → Bool → ℕ → Text → Option (Piece × Text)
chosen true blank list comment stop b bs = word_piece (b ∷ bs)
chosen false true list comment stop b bs = Some (Blank, bs)
chosen false false true comment stop b bs = list_piece bs (behind_list false bs)
chosen false false false true stop b bs = comment_piece (behind_close (drop 1 bs))
chosen false false false false true b bs = None
chosen false false false false false b bs = Some (Stray b, bs)

-- the piece that a text begins with, as a function
abbrev pub first_piece : Text → Option (Piece × Text)
first_piece [] = None
first_piece (b ∷ bs) = chosen (is_word_byte b) (is_blank b) (b == 40) (b == 47 && slice_index bs 0 == 42)
    (b == 41 || b == 46) b bs

-- the longest run of word characters
run_len : (word after : Text) → All (λ b. IsTrue (is_word_byte b)) word → BeginsNoWord after
    → prefix_len is_word_byte (word ++ after) ≡ length word
run_len [] [] each stops = refl
run_len [] (b ∷ after) each stops = rw stops refl
run_len (b ∷ word) after each stops =
    let first : is_word_byte b ≡ true = All-head (λ b. IsTrue (is_word_byte b)) b word each in
    let more = run_len word after (All-tail (λ b. IsTrue (is_word_byte b)) b word each) stops in
    rw (first, more) (omega arith)

word_cut : (word after : Text) → IsWord word → BeginsNoWord after
    → word_piece (word ++ after) ≡ Some (TheWord word, after)
word_cut word after is_word stops =
    let len = run_len word after is_word.1 stops in
    ap (λ n. Some (TheWord (take n (word ++ after)), drop n (word ++ after))) len
    ∙ ap (λ w. Some (TheWord w, drop (length word) (word ++ after))) (take_at word after (length word) refl)
    ∙ ap (λ a. Some (TheWord word, a)) (drop_at word after (length word) refl)

first_word : (word after : Text) → IsWord word → BeginsNoWord after
    → first_piece (word ++ after) ≡ Some (TheWord word, after)
first_word [] after is_word stops = absurd (omega (arith, is_word.0))
first_word (b ∷ word) after is_word stops =
    let first : is_word_byte b ≡ true = All-head (λ b. IsTrue (is_word_byte b)) b word is_word.1 in
    ap (λ v. chosen v (is_blank b) (b == 40) (b == 47 && slice_index (word ++ after) 0 == 42) (b == 41 || b == 46) b
    (word ++ after)) first
    ∙ word_cut (b ∷ word) after is_word stops

first_list : (list after : Text) → behind_list false (list ++ 41 ∷ after) ≡ Some after
    → first_piece (40 ∷ list ++ 41 ∷ after) ≡ Some (TheList list, after)
first_list list after closes =
    let n = length (list ++ 41 ∷ after) - length after - 1 in
    let len : length list ≡ n = omega (arith, length-append list (41 ∷ after)) in
    ap (list_piece (list ++ 41 ∷ after)) closes ∙ ap (λ l. Some (TheList l, after)) (take_at list (41 ∷ after) n len)

blank_first : (b : ℕ) (after : Text) → (b ≡ 32) ⊎ (b ≡ 44) → first_piece (b ∷ after) ≡ Some (Blank, after)
blank_first b after e = elim e [
  | inl is ↦ ap (λ c. first_piece (c ∷ after)) is
  | inr is ↦ ap
      (λ c. first_piece (c ∷ after)) is
]

first_blank : (b : ℕ) (after : Text) → is_blank b ≡ true → first_piece (b ∷ after) ≡ Some (Blank, after)
first_blank b after blank =
    blank_first b after (elim (or_cases (b == 32) (b == 44) blank)
    [ inl is ↦ inl (eqb-true b 32 is) | inr is ↦ inr (eqb-true b 44 is) ])

no_opening : (b : ℕ) (after : Text) → (b ≡ 47 → slice_index after 0 ≢ 42)
    → (b == 47 && slice_index after 0 == 42) ≡ false
no_opening b after no_star =
    false_from_ne_true _ (λ opens.
    let parts = and_parts (b == 47) (slice_index after 0 == 42) opens in
    no_star (eqb-true b 47 parts.0) (eqb-true (slice_index after 0) 42 parts.1))

first_stray : (b : ℕ) (after : Text) → IsTrue (is_stray b) → (b ≡ 47 → slice_index after 0 ≢ 42)
    → first_piece (b ∷ after) ≡ Some (Stray b, after)
first_stray b after stray no_star =
    let all = not-true (is_word_byte b || is_blank b || b == 40 || b == 41 || b == 46) stray in
    let period = or_parts (is_word_byte b || is_blank b || b == 40 || b == 41) (b == 46) all in
    let close = or_parts (is_word_byte b || is_blank b || b == 40) (b == 41) period.0 in
    let list = or_parts (is_word_byte b || is_blank b) (b == 40) close.0 in
    let blank = or_parts (is_word_byte b) (is_blank b) list.0 in
    let comment = no_opening b after no_star in
    let stop : (b == 41 || b == 46) ≡ false = or_from (b == 41) (b == 46) close.1 period.1 in
    ap (λ v. chosen v (is_blank b) (b == 40) (b == 47 && slice_index after 0 == 42) (b == 41 || b == 46) b after)
    blank.0
    ∙ ap (λ v. chosen false v (b == 40) (b == 47 && slice_index after 0 == 42) (b == 41 || b == 46) b after) blank.1
    ∙ ap (λ v. chosen false false v (b == 47 && slice_index after 0 == 42) (b == 41 || b == 46) b after) list.1
    ∙ ap (λ v. chosen false false false v (b == 41 || b == 46) b after) comment
    ∙ ap (λ v. chosen false false false false v b after) stop

pub takes_first : (text : Text) (p : Piece) (after : Text) → TakesPiece text p after
    → first_piece text ≡ Some (p, after)
takes_first text (TheWord word) after t = ap first_piece t.0 ∙ first_word word after t.1 t.2
takes_first text (TheList list) after t = ap first_piece t.0 ∙ first_list list after t.1
takes_first text Blank after t = ap first_piece t.1 ∙ first_blank t.0 after t.2
takes_first text Comment after t = ap first_piece t.1 ∙ ap comment_piece t.2
takes_first text (Stray b) after t = ap first_piece t.0 ∙ first_stray b after t.1 t.2

-- No piece begins there.
abbrev pub IsStop : Text → Type 0
IsStop text = first_piece text ≡ None

pub stop_nil : IsStop []
stop_nil = refl

pub stop_period : (after : Text) → IsStop (46 ∷ after)
stop_period after = refl

pub stop_comment : (text : Text) → OpensComment text → IsStop text
stop_comment text o = ap first_piece o.1 ∙ ap comment_piece o.2

pub stop_pairs : (text : Text) → BreaksPairs text → IsStop text
stop_pairs text o =
    elim o.1 [
      | inl is ↦ ap first_piece is
      | inr is ↦ ap first_piece is.0 ∙ ap (list_piece o.0) is.1
    ]

pub no_piece : (text : Text) (p : Piece) (after : Text) → IsStop text → TakesPiece text p after → ⊥
no_piece text p after stop t = cc (stop, takes_first text p after t)

pub piece_only : (text : Text) (p q : Piece) (after after' : Text) → TakesPiece text p after → TakesPiece text q after'
    → (p ≡ q) × (after ≡ after')
piece_only text p q after after' t u =
    let same : Some (p, after) ≡ Some (q, after') = sym (takes_first text p after t) ∙ takes_first text q after' u in
    let pair : unwrap_or (Some (p, after)) (p, after) ≡ unwrap_or (Some (q, after')) (p, after) =
    ap (λ o. unwrap_or o (p, after)) same in
    (ap (λ x. x.0) pair, ap (λ x. x.1) pair)

-- Pieces up to a stop begin with any others that the text begins with.
pub pieces_behind : (text : Text) (ps : List Piece) (stop : Text) (qs : List Piece) (mid : Text)
    → HasPieces text ps stop → IsStop stop → HasPieces text qs mid
    → (rs : List Piece) × (ps ≡ qs ++ rs) × HasPieces mid rs stop
pieces_behind text ps stop [] mid h stops g = (ps, refl, subst (λ t. HasPieces t ps stop) g h)
pieces_behind text [] stop (q ∷ qs) mid h stops g = absurd (no_piece text q g.0 (ap first_piece h ∙ stops) g.1)
pieces_behind text (p ∷ ps) stop (q ∷ qs) mid h stops g =
    let same = piece_only text p q h.0 g.0 h.1 g.1 in
    let more = pieces_behind g.0 ps stop qs mid (subst (λ t. HasPieces t ps stop) same.1 h.2) stops g.2 in
    (more.0, cc (same.0, more.1), more.2)

pub pieces_only : (text : Text) (ps qs : List Piece) (stop stop' : Text) → HasPieces text ps stop → IsStop stop
    → HasPieces text qs stop' → IsStop stop' → (ps ≡ qs) × (stop ≡ stop')
pieces_only text [] [] stop stop' h stops g stops' = (refl, sym h ∙ g)
pieces_only text [] (q ∷ qs) stop stop' h stops g stops' = absurd (no_piece text q g.0 (ap first_piece h ∙ stops) g.1)
pieces_only text (p ∷ ps) [] stop stop' h stops g stops' = absurd (no_piece text p h.0 (ap first_piece g ∙ stops') h.1)
pieces_only text (p ∷ ps) (q ∷ qs) stop stop' h stops g stops' =
    let same = piece_only text p q h.0 g.0 h.1 g.1 in
    let more = pieces_only h.0 ps qs stop stop' h.2 stops (subst (λ t. HasPieces t qs stop') (sym same.1) g.2) stops' in
    (cc (same.0, more.0), more.1)

pub pieces_append : (text mid rest : Text) (ps qs : List Piece) → HasPieces text ps mid → HasPieces mid qs rest
    → HasPieces text (ps ++ qs) rest
pieces_append text mid rest [] qs h g = subst (λ t. HasPieces t qs rest) (sym h) g
pieces_append text mid rest (p ∷ ps) qs h g = (h.0, h.1, pieces_append h.0 mid rest ps qs h.2 g)

pub solid_append : (ps qs : List Piece) → solid (ps ++ qs) ≡ solid ps ++ solid qs
solid_append ps qs = filter-append is_solid ps qs

none_solid : (front : List Piece) (r : Piece) (rs : List Piece) → is_solid r ≡ true → front ++ solid (r ∷ rs) ≡ [] → ⊥
none_solid front r rs one none =
    let kept : solid (r ∷ rs) ≡ r ∷ solid rs = rw one refl in
    let count = ap length (sym (ap (λ l. front ++ l) kept) ∙ none) in
    omega (arith, count, length-append front (r ∷ solid rs))

no_more : (mid : Text) (gap rs : List Piece) → BeginsNoGap mid → solid gap ++ solid rs ≡ [] → HasPieces mid rs []
    → mid ≡ []
no_more mid gap [] no_gap none h = h
no_more mid gap (r ∷ rs) no_gap none h = absurd (none_solid (solid gap) r rs (no_gap r h.0 h.1) none)

-- A text of gaps alone, behind some of which no gap comes, ends there.
pub idle_ends : (text : Text) (gap : List Piece) (mid : Text) → HasPieces text gap mid → BeginsNoGap mid → IsIdle text
    → mid ≡ []
idle_ends text gap mid h no_gap idle =
    let more = pieces_behind text idle.0 [] gap mid idle.1 stop_nil h in
    no_more mid gap more.0 no_gap (sym (solid_append gap more.0) ∙ sym (ap solid more.1) ∙ idle.2) more.2
