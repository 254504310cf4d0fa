-- The word that a command begins with, by what was read.
use Rattle.std.proofs.Common.{◌≡◌, ◌≢◌, List, [], ◌∷◌, Option, Some, None, refl, sym, ◌∙◌, ap}
use Rattle.std.specs.Prelude.{IfSome, IfNone}
use Rattle.terms.specs.declared.codes.CommandWord.{CommandWord}
use Rattle.terms.specs.Types.{Text}
use Rattle.terms.specs.Spelling.{word_text}
use Rattle.terms.specs.Statement.{Piece, TheWord, HasSolid}
use Rattle.terms.specs.Commands.{BeginsWith}
use Rattle.terms.proofs.CommandLines.{same_text}
use Rattle.rec80.specs.declared.piece.Piece.{Piece as Read}
use Rattle.rec80.specs.declared.piece.Piece.TheVariants.{Word as ReadWord, List as ReadList, Stray as ReadStray}
use Rattle.rec80.specs.Pieces.{piece_of}

pub no_piece : (ps : List Piece) (w : CommandWord) (rest : List Piece) → ps ≡ [] → BeginsWith ps w rest → ⊥
no_piece ps w rest none b = let begins : ps ≡ TheWord (word_text w) ∷ rest = b in cc (none, begins)

pub no_word : (p : Read) → ((text : _) → p ≡ ReadWord text → ⊥) → (t : Text) (ps qs : List Piece)
    → piece_of p ∷ ps ≡ TheWord t ∷ qs → ⊥
no_word (ReadWord text) other t ps qs e = other text refl
no_word (ReadList list) other t ps qs e = cc (e)
no_word (ReadStray b) other t ps qs e = cc (e)

-- the text begins with that word
abbrev Begins : Text → Text → Text → Type 0
Begins left word after = (pieces : List Piece) → HasSolid left pieces
    → (rest : List Piece) × (pieces ≡ TheWord word ∷ rest) × HasSolid after rest

pub word_taken : (found : Option CommandWord) (text left after : Text)
    → IfSome found (λ w. word_text w ≡ text) → Begins left text after
    → IfSome found (λ w. (pieces : List Piece) → HasSolid left pieces
    → (rest : List Piece) × BeginsWith pieces w rest × HasSolid after rest)
word_taken None text left after is takes = tt
word_taken (Some w) text left after is takes = λ pieces h.
    let t = takes pieces h in
    (t.0, t.1 ∙ ap (λ s. TheWord s ∷ t.0) (sym is), t.2)

pub word_unknown : (found : Option CommandWord) (text left after : Text)
    → IfNone found ((other : CommandWord) → word_text other ≢ text) → Begins left text after
    → IfNone found ((pieces : List Piece) → HasSolid left pieces → (w : CommandWord) (rest : List Piece)
    → BeginsWith pieces w rest → ⊥)
word_unknown None text left after none takes = λ pieces h w rest b.
    let t = takes pieces h in
    none w (sym (same_text text (word_text w) t.0 rest (sym t.1 ∙ b)))
word_unknown (Some w) text left after none takes = tt
