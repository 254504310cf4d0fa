-- The words of a statement and the members of a list are determined.
use Rattle.std.proofs.Common.{◌≡◌, true, false, List, [], ◌∷◌, map, refl, sym, ◌∙◌, ap, subst}
use Rattle.std.specs.List.{flat_map}
use Rattle.terms.specs.Types.{Text}
use Rattle.terms.specs.Statement.{Piece}
use Rattle.terms.specs.Words.{Word, word_pieces, HasWords, TakesWord, BeginsNoList, HasMore, HasMembers, plain}
use Rattle.terms.specs.Words.{IsListOf, IsOneOf}
use Rattle.terms.proofs.Solids.{words_first}
use Rattle.terms.proofs.Members.{next_only, blanks_none}

words_begin : (ws : List Word) → BeginsNoList (flat_map word_pieces ws)
words_begin [] = tt
words_begin (w ∷ ws) = tt

-- The first word of words.
pub takes_first : (pieces : List Piece) (w : Word) (ws : List Word) → HasWords pieces (w ∷ ws)
    → TakesWord pieces w (flat_map word_pieces ws)
takes_first pieces w ws h = record { pieces_are = h; ends = λ none. words_begin ws }

-- Pieces are one list of words at most.
pub words_only : (pieces : List Piece) (ws vs : List Word) → HasWords pieces ws → HasWords pieces vs → ws ≡ vs
words_only pieces [] [] h k = refl
words_only pieces [] (v ∷ vs) h k = absurd (cc (h, k))
words_only pieces (w ∷ ws) vs h k =
    let first = words_first pieces w (flat_map word_pieces ws) vs (takes_first pieces w ws h) k in
    let more = words_only (flat_map word_pieces ws) ws first.0 refl first.2 in
    ap (λ l. w ∷ l) more ∙ sym first.1

more_only : (text : Text) (ms ns : List Word) → HasMore text ms → HasMore text ns → ms ≡ ns
more_only text [] [] h k = refl
more_only text [] (n ∷ ns) h k = absurd (blanks_none false text n k.0 h k.1)
more_only text (m ∷ ms) [] h k = absurd (blanks_none false text m h.0 k h.1)
more_only text (m ∷ ms) (n ∷ ns) h k =
    let first = next_only false text m n h.0 k.0 h.1 k.1 in
    let more = more_only h.0 ms ns h.2 (subst (λ t. HasMore t ns) (sym first.1) k.2) in
    cc (first.0, more)

-- A list has one list of members at most.
pub members_only : (text : Text) (ms ns : List Word) → HasMembers text ms → HasMembers text ns → ms ≡ ns
members_only text [] ns h k = absurd h
members_only text (m ∷ ms) [] h k = absurd k
members_only text (m ∷ ms) (n ∷ ns) h k =
    let first = next_only true text m n h.0 k.0 h.1 k.1 in
    let more = more_only h.0 ms ns h.2 (subst (λ t. HasMore t ns) (sym first.1) k.2) in
    cc (first.0, more)

plain_only : (texts others : List Text) → map plain texts ≡ map plain others → texts ≡ others
plain_only [] [] e = refl
plain_only [] (b ∷ bs) e = absurd (cc (e))
plain_only (a ∷ as') [] e = absurd (cc (e))
plain_only (a ∷ as') (b ∷ bs) e =
    let words : plain a ≡ plain b = cc (e) in
    let first : a ≡ b = ap (λ (w : Word). w.word) words in
    let more = plain_only as' bs (cc (e)) in
    cc (first, more)

pub list_only : (form other : Text → Type 0) (text : Text) (ms ns : List Text) → IsListOf form text ms
    → IsListOf other text ns → ms ≡ ns
list_only form other text ms ns h k = plain_only ms ns (members_only text (map plain ms) (map plain ns) h.has_members
    k.has_members)

pub one_only : (form other : Text → Type 0) (text m n : Text) → IsOneOf form text m → IsOneOf other text n → m ≡ n
one_only form other text m n h k =
    let same : m ∷ [] ≡ n ∷ [] = plain_only (m ∷ []) (n ∷ [])
    (members_only text (plain m ∷ []) (plain n ∷ []) h.has_member k.has_member) in
    cc (same)
