-- Commands one after the other, and the word that a command begins with.
use Rattle.std.proofs.Common.{◌≡◌, ℕ, false, List, [], ◌∷◌, ◌++◌, refl, sym, ◌∙◌, ap, subst}
use Rattle.std.specs.Prelude.{codes, if◌then◌else◌}
use Rattle.std.specs.Str.{bytes_eq}
use Rattle.terms.specs.declared.codes.CommandWord.{CommandWord}
use Rattle.terms.specs.declared.codes.CommandWord.TheVariants as word
use Rattle.terms.specs.Types.{Text, Command}
use Rattle.terms.specs.Spelling.{word_text}
use Rattle.terms.specs.Statement.{Piece, TheWord}
use Rattle.terms.specs.CommandCuts.{TakesCommand}
use Rattle.terms.specs.Words.{Word, HasWords}
use Rattle.terms.specs.Operands.{AreOperands}
use Rattle.terms.specs.CommandForms.{operands_of, command_word, HasOperands, IsCommand}
use Rattle.terms.specs.Commands.{has_double, BeginsWith, BeginsWithCommands}
use Rattle.terms.proofs.OperandWords.{AreKnown, are_operands}

-- the word that a text spells
abbrev spelled : Text → CommandWord
spelled t =
    if bytes_eq t (codes "SET") then word.Set else
    if bytes_eq t (codes "RECEIVE") then word.Receive else
    if bytes_eq t (codes "REJECT") then word.Reject else
    if bytes_eq t (codes "APPLY") then word.Apply else
    if bytes_eq t (codes "ACCEPT") then word.Accept else
    if bytes_eq t (codes "RESTORE") then word.Restore else
    if bytes_eq t (codes "LIST") then word.List else word.Report

spelled_is : (w : CommandWord) → spelled (word_text w) ≡ w
spelled_is word.Set = refl
spelled_is word.Receive = refl
spelled_is word.Reject = refl
spelled_is word.Apply = refl
spelled_is word.Accept = refl
spelled_is word.Restore = refl
spelled_is word.List = refl
spelled_is word.Report = refl

-- No two commands begin with one word.
pub word_only : (a b : CommandWord) → word_text a ≡ word_text b → a ≡ b
word_only a b e = sym (spelled_is a) ∙ ap spelled e ∙ spelled_is b

pub same_text : (s t : Text) (ps qs : List Piece) → TheWord s ∷ ps ≡ TheWord t ∷ qs → s ≡ t
same_text s t ps qs e = cc (e)

same_rest : (s t : Text) (ps qs : List Piece) → TheWord s ∷ ps ≡ TheWord t ∷ qs → ps ≡ qs
same_rest s t ps qs e = cc (e)

pub begins_only : (pieces : List Piece) (v w : CommandWord) (rest rest' : List Piece) → BeginsWith pieces v rest
    → BeginsWith pieces w rest' → (v ≡ w) × (rest ≡ rest')
begins_only pieces v w rest rest' b c =
    let e : TheWord (word_text v) ∷ rest ≡ TheWord (word_text w) ∷ rest' = sym b ∙ c in (
      word_only v w (same_text (word_text v) (word_text w) rest rest' e),
      same_rest (word_text v) (word_text w) rest rest' e,
    )

-- A command that begins with a word has its operands in what follows.
pub of_command : (pieces : List Piece) (w : CommandWord) (rest : List Piece) (c : Command) → BeginsWith pieces w rest
    → IsCommand pieces c → (command_word c ≡ w) × ((ws : List Word) × HasWords rest ws × AreKnown w ws
    × HasOperands ws c)
of_command pieces w rest c b k =
    let s = begins_only pieces (command_word c) w k.rest rest k.begins b in (
      s.0,
      (
        k.words,
        subst (λ r. HasWords r k.words) s.1 k.has_words,
        subst (λ v. AreKnown v k.words) s.0 k.are_operands.known,
        k.has_operands,
      ),
    )

pub is_command : (pieces : List Piece) (w : CommandWord) (rest : List Piece) (ws : List Word) (c : Command)
    → BeginsWith pieces w rest → HasWords rest ws → AreKnown w ws → has_double w rest ≡ false → command_word c ≡ w
    → HasOperands ws c → IsCommand pieces c
is_command pieces w rest ws c b has known single e values = record {
  rest = rest;
  words = ws;
  begins = b ∙ ap (λ v. TheWord (word_text v) ∷ rest) (sym e);
  has_words = has;
  are_operands = subst (λ v. AreOperands (operands_of v) ws) (sym e) (are_operands w rest ws has known single);
  has_operands = values;
}

-- one command more
pub begins_more : (n : ℕ) (records : List (List ℕ)) (cs : List Command) (m m' number : ℕ) (rest rest' : List (List ℕ))
    (pieces : List Piece) (c : Command) → BeginsWithCommands n records cs m rest
    → TakesCommand m rest pieces number m' rest' → IsCommand pieces c
    → BeginsWithCommands n records (cs ++ c ∷ []) m' rest'
begins_more n records [] m m' number rest rest' pieces c b t is =
    let t' : TakesCommand n rest pieces number m' rest' = subst (λ k. TakesCommand k rest pieces number m' rest')
    (sym b.0) t in
    (pieces, number, m', rest', subst (λ r. TakesCommand n r pieces number m' rest') (sym b.1) t', is, (refl, refl))
begins_more n records (d ∷ cs) m m' number rest rest' pieces c b t is =
    (b.0, b.1, b.2, b.3, b.4, b.5, begins_more b.2 b.3 cs m m' number rest rest' pieces c b.6 t is)
