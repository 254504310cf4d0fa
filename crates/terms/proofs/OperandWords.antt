-- How often words stand among pieces, and words that are known operands, each at most once.
use Rattle.std.proofs.Common.{◌≡◌, ◌≢◌, ◌≤◌, ◌<◌, ◌+◌, ℕ, Bool, true, false, IsTrue, List, [], ◌∷◌, ◌++◌, map, Option}
use Rattle.std.proofs.Common.{Some, None, refl, sym, ◌∙◌, ap, subst, arith, cond, append_assoc, inl, inr}
use Rattle.std.specs.Prelude.{All, AllPairs, Contains, count_by}
use Rattle.std.specs.List.{list_any, flat_map}
use Rattle.std.specs.Str.{bytes_eq}
use Rattle.std.proofs.lemmas.Bool.{leb-true, leb-false, false_from_ne_true, true_from_ne_false, true≢false, or_parts}
use Rattle.std.proofs.lemmas.List.{append-nil, get_or_default}
use Rattle.std.proofs.lemmas.List.Sums.{sum_by-cons}
use Rattle.std.proofs.lemmas.List.Folds.{list_any_at}
use Rattle.std.proofs.lemmas.List.Elements.{All-head, All-tail}
use Rattle.std.proofs.lemmas.List.Kept.{AllPairs-cons}
use Rattle.std.proofs.lemmas.Grind.{flat_map-append}
use Rattle.std.proofs.lemmas.Slice.Eq.{bytes_eq-Decides}
use Rattle.terms.proofs.TextOrder.{same_itself}
use Rattle.terms.specs.declared.codes.CommandWord.{CommandWord}
use Rattle.terms.specs.Types.{Text}
use Rattle.terms.specs.Lookups.{is_in}
use Rattle.terms.specs.Statement.{Piece, TheWord, TheList, Blank, Comment, Stray}
use Rattle.terms.specs.Words.{Word, HasWords, TakesWord, word_pieces, list_pieces}
use Rattle.terms.specs.Operands.{AreOperands}
use Rattle.terms.specs.CommandForms.{operands_of}
use Rattle.terms.specs.Commands.{has_double}
use Rattle.terms.specs.Operands.{words_in, is_often}
use Rattle.terms.proofs.Pairs.{pairs_unmap, AllPairs_first, AllPairs_rest}
use Rattle.terms.proofs.ListMembers.{here, here_or, there}
use Rattle.terms.proofs.Ids.{Contains_from_is_in}

-- how often a word stands in a list
abbrev pub count : Text → List Text → ℕ
count name texts = count_by (bytes_eq name) texts

abbrev pub one_if : Text → Text → ℕ
one_if name t = cond (bytes_eq name t) 1 0

pub count_cons : (name t : Text) (texts : List Text) → count name (t ∷ texts) ≡ one_if name t + count name texts
count_cons name t texts = sum_by-cons (one_if name) t texts

pub count_same : (name t : Text) (texts : List Text) → bytes_eq name t ≡ true
    → count name (t ∷ texts) ≡ 1 + count name texts
count_same name t texts same = count_cons name t texts ∙ ap (λ b. cond b 1 0 + count name texts) same

pub count_other : (name t : Text) (texts : List Text) → bytes_eq name t ≡ false
    → count name (t ∷ texts) ≡ count name texts
count_other name t texts other =
    let e : count name (t ∷ texts) ≡ 0 + count name texts = count_cons name t texts
    ∙ ap (λ b. cond b 1 0 + count name texts) other in
    omega (arith, e)

pub count_up : (name t : Text) (texts : List Text) → count name texts ≤ count name (t ∷ texts)
count_up name t texts = omega (arith, count_cons name t texts)

-- a word that is there counts
pub count_there : (t : Text) (texts : List Text) → Contains texts t → 1 ≤ count t texts
count_there t [] h = absurd (omega (arith, h.1))
count_there t (s ∷ texts) h =
    elim (here_or s texts t h) [
      | inl same ↦ omega (arith, count_same t s texts (ap (bytes_eq t) same ∙ same_itself t))
      | inr later ↦ omega (arith, count_there t texts later, count_up t s texts)
    ]

-- Where each counts once at most, no two are the same.
pub apart_once : (texts : List Text) → ((t : Text) → Contains texts t → count t texts ≤ 1)
    → AllPairs (λ a b. a ≢ b) texts
apart_once [] once = λ i j d before below. absurd (omega (arith, below))
apart_once (t ∷ texts) once =
    AllPairs-cons (λ a b. a ≢ b) t texts
    (λ k d below same.
    let low : 1 ≤ count t texts = count_there t texts (k, below, sym (get_or_default texts k d t below) ∙ sym same) in
    omega (arith, low, count_same t t texts (same_itself t), once t (here t texts)))
    (apart_once texts (λ s h. omega (arith, once s (there t texts s h), count_up s t texts)))

-- how often a word stands in a list without doubles
count_none : (t : Text) (texts : List Text) → All (λ s. t ≢ s) texts → count t texts ≡ 0
count_none t [] apart = refl
count_none t (s ∷ texts) apart =
    let other : bytes_eq t s ≡ false = false_from_ne_true (bytes_eq t s)
    (λ same. All-head (λ s. t ≢ s) s texts apart ((bytes_eq-Decides t s).0 same)) in
    count_other t s texts other ∙ count_none t texts (All-tail (λ s. t ≢ s) s texts apart)

pub count_once : (t : Text) (texts : List Text) → AllPairs (λ a b. a ≢ b) texts → count t texts ≤ 1
count_once t [] apart = omega arith
count_once t (s ∷ texts) apart = at (count_once t texts (AllPairs_rest (λ a b. a ≢ b) s texts apart)) (bytes_eq t s)
    refl
  where
    at : count t texts ≤ 1 → (b : Bool) → bytes_eq t s ≡ b → count t (s ∷ texts) ≤ 1
    at more true same =
        let is : t ≡ s = (bytes_eq-Decides t s).0 same in
        let none = count_none t texts (subst (λ u. All (λ v. u ≢ v) texts) (sym is)
        (AllPairs_first (λ a b. a ≢ b) s texts apart)) in
        omega (arith, count_same t s texts same, none)
    at more false other = omega (arith, count_other t s texts other, more)

-- the words outside parentheses of pieces that are words
pub words_of : (ws : List Word) → words_in (flat_map word_pieces ws) ≡ map (λ w. w.word) ws
words_of [] = refl
words_of (w ∷ ws) = ap (λ l. w.word ∷ l) (rest_of w.list (flat_map word_pieces ws) ∙ words_of ws)
  where
    rest_of : (list : Option Text) (ps : List Piece) → words_in (list_pieces list ++ ps) ≡ words_in ps
    rest_of None ps = refl
    rest_of (Some list) ps = refl

-- each word is a known operand of the command
abbrev pub AreKnown : CommandWord → List Word → Type 0
AreKnown word ws = All (λ w. IsTrue (is_in (operands_of word) w.word)) ws

none_of : (p : Text → Bool) (xs : List Text) (x : Text) → list_any p xs ≡ false → Contains xs x → p x ≡ false
none_of p xs x none h =
    false_from_ne_true (p x) (λ yes'. true≢false (sym (list_any_at p xs h.0 x h.1 (ap p h.2 ∙ yes')) ∙ none))

known_text : (names : List Text) (ws : List Word) (t : Text) → All (λ w. IsTrue (is_in names w.word)) ws
    → Contains (map (λ w. w.word) ws) t → Contains names t
known_text names [] t known h = absurd (omega (arith, h.1))
known_text names (w ∷ ws) t known h =
    elim (here_or w.word (map (λ w. w.word) ws) t h) [
      | inl same ↦ Contains_from_is_in names t (subst (λ t. IsTrue (is_in names t)) same
          (All-head (λ w. IsTrue (is_in names w.word)) w ws known))
      | inr later ↦ known_text names ws t (All-tail (λ w. IsTrue (is_in names w.word)) w ws known) later
    ]

-- Of names of which none is there twice, each is there once at most.
pub once_each : (names texts : List Text) → list_any (is_often 2 texts) names ≡ false → (t : Text) → Contains names t
    → count t texts ≤ 1
once_each names texts single t there' =
    let few = leb-false 2 (count t texts) (none_of (is_often 2 texts) names t single there') in
    omega (arith, few)

-- Words of these names, each of which is there once at most, are operands.
pub operands_once : (names : List Text) (ws : List Word) → All (λ w. IsTrue (is_in names w.word)) ws
    → ((t : Text) → Contains names t → count t (map (λ w. w.word) ws) ≤ 1) → AreOperands names ws
operands_once names ws known once = record {
  known = known;
  once = pairs_unmap (λ a b. a.word ≢ b.word) (λ s t. s ≢ t) (λ (w : Word). w.word) (λ a b n. n) ws
      (apart_once (map (λ (w : Word). w.word) ws) (λ t there'. once t (known_text names ws t known there')));
}

-- Words that are known and of which none is there twice are operands.
pub are_operands : (word : CommandWord) (pieces : List Piece) (ws : List Word) → HasWords pieces ws → AreKnown word ws
    → has_double word pieces ≡ false → AreOperands (operands_of word) ws
are_operands word pieces ws h known single =
    let is : words_in pieces ≡ map (λ (w : Word). w.word) ws = ap words_in h ∙ words_of ws in
    let alone = or_parts (list_any (is_often 2 (words_in pieces)) (operands_of word)) _ single in
    operands_once (operands_of word) ws known (λ t there'.
    subst (λ texts. count t texts ≤ 1) is (once_each (operands_of word) (words_in pieces) alone.0 t there'))

-- whether a word is there, by how often it is
pub often : (n : ℕ) (texts : List Text) (name : Text) → n ≤ count name texts → is_often n texts name ≡ true
often n texts name h = true_from_ne_false (is_often n texts name)
    (λ no'. omega (arith, leb-false n (count name texts) no', h))

pub seldom : (n : ℕ) (texts : List Text) (name : Text) → count name texts < n → is_often n texts name ≡ false
seldom n texts name h = false_from_ne_true (is_often n texts name)
    (λ yes'. omega (arith, leb-true n (count name texts) yes', h))
