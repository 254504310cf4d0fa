-- Words by their names: which are there, and how often.
use Rattle.std.proofs.Common.{◌≡◌, ◌≢◌, ℕ, Bool, true, false, List, [], ◌∷◌, map, filter, length, Option, Some, None}
use Rattle.std.proofs.Common.{refl, sym, ◌∙◌, ap, All, arith, get_or}
use Rattle.std.specs.Prelude.{◌↔◌, not, IsTrue, AllPairs, is_some, option_map, nat_le}
use Rattle.std.specs.List.{list_any}
use Rattle.std.specs.Str.{bytes_eq}
use Rattle.std.specs.Borrow.{Bor}
use Rattle.std.proofs.lemmas.Bool.{not-true, not_from_false}
use Rattle.std.proofs.lemmas.List.Elements.{All-map}
use Rattle.std.proofs.lemmas.List.Folds.{list_any_none}
use Rattle.terms.specs.Types.{Text}
use Rattle.terms.specs.Lookups.{is_in}
use Rattle.terms.specs.Statement.{Piece}
use Rattle.terms.specs.Words.{Word}
use Rattle.terms.specs.Operands.{operand, AreOperands, words_in, list_behind, is_often}
use Rattle.terms.proofs.Each.{All_unmap}
use Rattle.terms.proofs.OperandWords.{count, count_same, count_other, count_once, operands_once, once_each, seldom}
use Rattle.terms.proofs.OperandWords.{often}
use Rattle.terms.proofs.Pairs.{pairs_map}
use Rattle.terms.proofs.Searches.{list_any_map}
use Rattle.terms.proofs.TextOrder.{same_back}
use Rattle.rec80.specs.declared.words.Word.{Word as Read}
use Rattle.rec80.specs.Views.{word_of, words_of}
use Rattle.rec80.specs.Read.{words_among}
use Rattle.rec80.proofs.WordsAmong.{among_texts, among_list, own}

abbrev pub texts_of : List Read → List Text
texts_of ws = map (λ (w : Word). w.word) (words_of ws)

-- how often a word has the name
pub count_is : (name : Text) (ws : List Read) → length (filter (λ w. bytes_eq name w.word.now) ws)
    ≡ count name (texts_of ws)
count_is name [] = refl
count_is name (w ∷ ws) = by (count_is name ws) (bytes_eq name w.word.now) refl
  where
    by : length (filter (λ v. bytes_eq name v.word.now) ws) ≡ count name (texts_of ws) → (b : Bool)
        → bytes_eq name w.word.now ≡ b
        → length (filter (λ v. bytes_eq name v.word.now) (w ∷ ws)) ≡ count name (texts_of (w ∷ ws))
    by later true is = rw is (omega (arith, later, count_same name w.word.now (texts_of ws) is))
    by later false is = rw is later ∙ sym (count_other name w.word.now (texts_of ws) is)

pub twice_is : (name : Text) (ws : List Read) (n : ℕ) → n ≡ length (filter (λ w. bytes_eq name w.word.now) ws)
    → nat_le 2 n ≡ is_often 2 (texts_of ws) name
twice_is name ws n is = ap (nat_le 2) (is ∙ count_is name ws)

abbrev now : Bor Text → Text
now name = name.now

-- words that are known, and of which none is there twice
pub operands_are : (names : List (Bor Text)) (ws : List Read) (twice : Bool)
    → All (λ w. IsTrue (is_in (map (λ name. name.now) names) w.word.now)) ws
    → twice ≡ list_any (λ name. is_often 2 (texts_of ws) name.now) names
    → IsTrue (not twice) ↔ AreOperands (map (λ name. name.now) names) (words_of ws)
operands_are names ws twice known is = (
  λ e.
      let each = All-map (λ w. IsTrue (is_in (map now names) w.word)) word_of ws known in
      let single : list_any (is_often 2 (texts_of ws)) (map now names) ≡ false =
      list_any_map (is_often 2 (texts_of ws)) now names ∙ sym is ∙ not-true twice e in
      operands_once (map now names) (words_of ws) each (once_each (map now names) (texts_of ws) single),
  λ a.
      let apart : AllPairs (λ s t. s ≢ t) (texts_of ws) =
      pairs_map (λ (u v : Word). u.word ≢ v.word) (λ s t. s ≢ t) (λ (w : Word). w.word) (λ u v n. n) (words_of ws)
      a.once in
      let none : list_any (is_often 2 (texts_of ws)) (map now names) ≡ false =
      list_any_none (is_often 2 (texts_of ws)) (map now names) (λ i d below.
      let few = count_once (get_or (map now names) i d) (texts_of ws) apart in
      seldom 2 (texts_of ws) (get_or (map now names) i d) (omega (arith, few))) in
      not_from_false twice (is ∙ sym (list_any_map (is_often 2 (texts_of ws)) now names) ∙ none),
)

pub operands_known : (names : List (Bor Text)) (ws : List Read)
    → AreOperands (map (λ name. name.now) names) (words_of ws)
    → All (λ w. IsTrue (is_in (map (λ name. name.now) names) w.word.now)) ws
operands_known names ws a = All_unmap (λ w. IsTrue (is_in (map now names) w.word)) word_of ws a.known

-- a search finds what stands there once or more often
pub found_is : (name : Text) (ws : List Word) → is_some (operand name ws) ≡ is_often 1 (map (λ w. w.word) ws) name
found_is name [] = refl
found_is name (w ∷ ws) = by (found_is name ws) (bytes_eq name w.word) refl
  where
    by : is_some (operand name ws) ≡ is_often 1 (map (λ (w : Word). w.word) ws) name → (b : Bool)
        → bytes_eq name w.word ≡ b
        → is_some (operand name (w ∷ ws)) ≡ is_often 1 (map (λ (w : Word). w.word) (w ∷ ws)) name
    by later true is =
        let texts = map (λ (w : Word). w.word) (w ∷ ws) in
        let one = count_same name w.word (map (λ (w : Word). w.word) ws) is in
        rw (same_back w.word name, is) (sym (often 1 texts name (omega (arith, one))))
    by later false is =
        let same = count_other name w.word (map (λ (w : Word). w.word) ws) is in
        rw (same_back w.word name, is) (later ∙ ap (nat_le 1) (sym same))

some_mapped : {X Y : Type 0} (f : X → Y) (o : Option X) → is_some (option_map f o) ≡ is_some o
some_mapped f None = refl
some_mapped f (Some x) = refl

pub there_is : (name : Text) (found : Option Read) (pieces : List Piece) (ws : List Word)
    → option_map word_of found ≡ operand name ws → ws ≡ words_among pieces
    → is_some found ≡ is_often 1 (words_in pieces) name
there_is name found pieces ws is are =
    sym (some_mapped word_of found) ∙ ap is_some is ∙ found_is name ws
    ∙ ap (λ vs. is_often 1 (map (λ (w : Word). w.word) vs) name) are
    ∙ ap (λ texts. is_often 1 texts name) (among_texts pieces)

-- the texts of the words among pieces
pub texts_are : (ws : List Read) (pieces : List Piece) → words_of ws ≡ words_among pieces
    → texts_of ws ≡ words_in pieces
texts_are ws pieces are = ap (λ vs. map (λ (w : Word). w.word) vs) are ∙ among_texts pieces

pub list_is : (name : Text) (found : Option Read) (pieces : List Piece) (ws : List Word)
    → option_map word_of found ≡ operand name ws → ws ≡ words_among pieces
    → own (option_map word_of found) ≡ list_behind name pieces
list_is name found pieces ws is are = ap own is ∙ ap (λ vs. own (operand name vs)) are ∙ among_list name pieces
