-- The words among pieces, taken one by one from the front.
use Rattle.std.proofs.Common.{◌≡◌, Bool, true, false, List, [], ◌∷◌, ◌++◌, map, Option, Some, None, Result, Ok, Err}
use Rattle.std.proofs.Common.{refl, sym, ◌∙◌, ap, subst, append_assoc, append-nil}
use Rattle.std.specs.Prelude.{◌↔◌, IsTrue, IfOk, IfErr}
use Rattle.std.specs.List.{flat_map}
use Rattle.std.specs.Str.{bytes_eq}
use Rattle.std.proofs.lemmas.Bool.{true≢false, false≢true}
use Rattle.std.proofs.lemmas.List.{map-append}
use Rattle.terms.specs.Types.{Text}
use Rattle.terms.specs.Statement.{Piece, TheWord, TheList, Blank, Comment, Stray, HasSolid}
use Rattle.terms.specs.Words.{Word, word_pieces, list_pieces, HasWords, TakesWord, BeginsNoList, BeginsNoWords}
use Rattle.terms.specs.Operands.{words_in, leading_list, list_behind, operand}
use Rattle.terms.proofs.Solids.{words_more, words_first, no_words}
use Rattle.terms.proofs.ExactWords.{takes_first}
use Rattle.terms.proofs.TextOrder.{same_back}
use Rattle.rec80.specs.declared.words.Word.{Word as Read}
use Rattle.rec80.specs.declared.words.NoWord.{NoWord}
use Rattle.rec80.specs.declared.operands.Operands.{Operands}
use Rattle.rec80.specs.Views.{word_of, words_of}
use Rattle.rec80.specs.Read.{words_among}

no_list : (ps : List Piece) → BeginsNoList ps → leading_list ps ≡ None
no_list [] h = refl
no_list (TheList list ∷ ps) h = absurd h
no_list (TheWord t ∷ ps) h = refl
no_list (Blank ∷ ps) h = refl
no_list (Comment ∷ ps) h = refl
no_list (Stray b ∷ ps) h = refl

behind : (text : Text) (list : Option Text) (rest : List Piece) → (list ≡ None → BeginsNoList rest)
    → words_among (TheWord text ∷ (list_pieces list ++ rest)) ≡ record { word = text; list = list } ∷ words_among rest
behind text None rest ends = ap (λ l. record { word = text; list = l } ∷ words_among rest) (no_list rest (ends refl))
behind text (Some list) rest ends = refl

-- at a word
pub among_word : (pieces : List Piece) (w : Word) (rest : List Piece) → TakesWord pieces w rest
    → words_among pieces ≡ w ∷ words_among rest
among_word pieces w rest t = ap words_among t.pieces_are ∙ behind w.word w.list rest t.ends

-- at another piece
among_other : (p : Piece) (rest : List Piece) → BeginsNoWords (p ∷ rest) → words_among (p ∷ rest) ≡ words_among rest
among_other (TheWord t) rest h = absurd h
among_other (TheList list) rest h = refl
among_other Blank rest h = refl
among_other Comment rest h = refl
among_other (Stray b) rest h = refl

-- Where the pieces are words, these are the words among them.
pub among_words : (pieces : List Piece) (ws : List Word) → HasWords pieces ws → ws ≡ words_among pieces
among_words pieces [] h = sym (ap words_among h)
among_words pieces (w ∷ ws) h =
    ap (λ l. w ∷ l) (among_words (flat_map word_pieces ws) ws refl)
    ∙ sym (among_word pieces w (flat_map word_pieces ws) (takes_first pieces w ws h))

-- The words among the pieces are those outside parentheses,
pub among_texts : (ps : List Piece) → map (λ w. w.word) (words_among ps) ≡ words_in ps
among_texts [] = refl
among_texts (TheWord t ∷ ps) = ap (λ l. t ∷ l) (among_texts ps)
among_texts (TheList list ∷ ps) = among_texts ps
among_texts (Blank ∷ ps) = among_texts ps
among_texts (Comment ∷ ps) = among_texts ps
among_texts (Stray b ∷ ps) = among_texts ps

-- the list of an operand
abbrev pub own : Option Word → Option Text
own None = None
own (Some w) = w.list

-- and the list of the first of a name is the one behind it.
pub among_list : (name : Text) (ps : List Piece) → own (operand name (words_among ps)) ≡ list_behind name ps
among_list name [] = refl
among_list name (TheWord t ∷ ps) = at (among_list name ps) (bytes_eq name t) refl
  where
    at : own (operand name (words_among ps)) ≡ list_behind name ps → (b : Bool) → bytes_eq name t ≡ b
        → own (operand name (words_among (TheWord t ∷ ps))) ≡ list_behind name (TheWord t ∷ ps)
    at later true is = rw (same_back t name, is) refl
    at later false is = rw (same_back t name, is) later
among_list name (TheList list ∷ ps) = among_list name ps
among_list name (Blank ∷ ps) = among_list name ps
among_list name (Comment ∷ ps) = among_list name ps
among_list name (Stray b ∷ ps) = among_list name ps

-- Some words were taken, and whether nothing else was passed by: the rest is left.
pub record Reads (text : Text) (found : List Word) (alone : Bool) (pieces : List Piece) : Type 0 where
  pub rest : List Piece
  pub solid : HasSolid text rest
  pub among : words_among pieces ≡ found ++ words_among rest
  pub to : alone ≡ true → (ws : List Word) → HasWords rest ws → HasWords pieces (found ++ ws)
  pub from : alone ≡ true → (all : List Word) → HasWords pieces all → (ws : List Word) × (all ≡ found ++ ws)
      × HasWords rest ws
  pub none : alone ≡ false → (all : List Word) → HasWords pieces all → ⊥

pub reads_all : (text : Text) (pieces : List Piece) → HasSolid text pieces → Reads text [] true pieces
reads_all text pieces h = record {
  rest = pieces;
  solid = h;
  among = refl;
  to = λ e ws w. w;
  from = λ e all w. (all, refl, w);
  none = λ e. absurd (true≢false e);
}

-- what is taken from the words that are left
abbrev pub TakesNext : Text → Word → Text → Type 0
TakesNext text w after = (pieces : List Piece) → HasSolid text pieces
    → (rest : List Piece) × TakesWord pieces w rest × HasSolid after rest

pub reads_word : (text after : Text) (found : List Word) (alone : Bool) (pieces : List Piece) (w : Word)
    → Reads text found alone pieces → TakesNext text w after → Reads after (found ++ w ∷ []) alone pieces
reads_word text after found alone pieces w r takes =
    let next = takes r.rest r.solid in
    record {
      rest = next.0;
      solid = next.2;
      among = r.among ∙ ap (λ l. found ++ l) (among_word r.rest w next.0 next.1)
          ∙ sym (append_assoc found (w ∷ []) (words_among next.0));
      to = λ e ws h. subst (HasWords pieces) (sym (append_assoc found (w ∷ []) ws))
          (r.to e (w ∷ ws) (words_more r.rest w next.0 ws next.1 h));
      from = λ e all h.
          let left = r.from e all h in
          let first = words_first r.rest w next.0 left.0 next.1 left.2 in
          (first.0, left.1 ∙ ap (λ l. found ++ l) first.1 ∙ sym (append_assoc found (w ∷ []) first.0), first.2);
      none = r.none;
    }

-- another piece that is passed by
abbrev pub PassesNext : Text → Text → Type 0
PassesNext text after = (pieces : List Piece) → HasSolid text pieces
    → BeginsNoWords pieces × ((p : Piece) × (rest : List Piece) × (pieces ≡ p ∷ rest) × HasSolid after rest)

pub reads_other : (text after : Text) (found : List Word) (alone : Bool) (pieces : List Piece)
    → Reads text found alone pieces → PassesNext text after → Reads after found false pieces
reads_other text after found alone pieces r passes =
    let next = passes r.rest r.solid in
    let p = next.1.0 in
    let rest = next.1.1 in
    let is : r.rest ≡ p ∷ rest = next.1.2 in
    record {
      rest = rest;
      solid = next.1.3;
      among = r.among ∙ ap (λ l. found ++ l) (ap words_among is ∙ among_other p rest (subst BeginsNoWords is next.0));
      to = λ e. absurd (false≢true e);
      from = λ e. absurd (false≢true e);
      none = λ e all h. by alone refl all h;
    }
  where
    by : (b : Bool) → alone ≡ b → (all : List Word) → HasWords pieces all → ⊥
    by false e all h = r.none e all h
    by true e all h =
        let left = r.from e all h in
        no_words r.rest left.0 (passes r.rest r.solid).0 left.2

-- one of the two
pub reads_next : (text after : Text) (pieces : List Piece) (found : Result Read NoWord) (old new : Operands)
    → Reads text (words_of old.words.items) old.only_words pieces
    → ((ps : List Piece) → HasSolid text ps → IfOk found (λ w. (rest : List Piece) × TakesWord ps (word_of w) rest
    × HasSolid after rest))
    → ((ps : List Piece) → HasSolid text ps → IfErr found (λ _. BeginsNoWords ps × ((p : Piece) × (rest : List Piece)
    × (ps ≡ p ∷ rest) × HasSolid after rest)))
    → IfOk found (λ w. (new.words.items ≡ old.words.items ++ w ∷ []) × (new.only_words ≡ old.only_words))
    → IfErr found (λ _. (new.words.items ≡ old.words.items) × (new.only_words ≡ false))
    → Reads after (words_of new.words.items) new.only_words pieces
reads_next text after pieces (Ok w) old new r word other more passed =
    let all : words_of new.words.items ≡ words_of old.words.items ++ word_of w ∷ [] =
    ap words_of more.0 ∙ map-append word_of old.words.items (w ∷ []) in
    subst (λ b. Reads after (words_of new.words.items) b pieces) (sym more.1)
    (subst (λ ws. Reads after ws old.only_words pieces) (sym all)
    (reads_word text after (words_of old.words.items) old.only_words pieces (word_of w) r word))
reads_next text after pieces (Err e) old new r word other more passed =
    subst (λ b. Reads after (words_of new.words.items) b pieces) (sym passed.1)
    (subst (λ ws. Reads after ws false pieces) (sym (ap words_of passed.0))
    (reads_other text after (words_of old.words.items) old.only_words pieces r other))

-- Where nothing is left, the words are those among the pieces,
pub reads_words : (text : Text) (found : List Word) (alone : Bool) (pieces : List Piece)
    → Reads text found alone pieces → ((rest : List Piece) → HasSolid text rest → rest ≡ [])
    → found ≡ words_among pieces
reads_words text found alone pieces r end =
    sym (r.among ∙ ap (λ ps. found ++ words_among ps) (end r.rest r.solid) ∙ append-nil found)

-- and it is known whether they are all.
pub reads_alone : (text : Text) (found : List Word) (alone : Bool) (pieces : List Piece)
    → Reads text found alone pieces → ((rest : List Piece) → HasSolid text rest → rest ≡ [])
    → IsTrue alone ↔ HasWords pieces (words_among pieces)
reads_alone text found alone pieces r end = (
  λ e. subst (HasWords pieces) (append-nil found ∙ reads_words text found alone pieces r end)
      (r.to e [] (end r.rest r.solid)),
  λ h. by alone refl h,
)
  where
    by : (b : Bool) → alone ≡ b → HasWords pieces (words_among pieces) → IsTrue alone
    by true e h = e
    by false e h = absurd (r.none e (words_among pieces) h)
