-- Texts of lists and of lines, as pieces.
use Rattle.std.proofs.Common.{◌≡◌, ◌<◌, ◌+◌, ℕ, List, [], ◌∷◌, ◌++◌, length, take, drop, get_or}
use Rattle.std.proofs.Common.{sym, ◌∙◌, ap, arith, append_assoc, map, add-one, drop-cons}
use Rattle.std.specs.Prelude.{max}
use Rattle.std.specs.List.{flat_map}
use Rattle.std.proofs.lemmas.List.Folds.{flat_map-map}
use Rattle.terms.proofs.Lists.{joined}
use Rattle.machine.specs.Outcome.{line_code, lines_code}
use Rattle.report.specs.declared.outcome.ReportLine.{ReportLine}
use Rattle.report.specs.Views.{line_view}
use Rattle.machine.specs.Report.{words_line}
use Rattle.report.specs.declared.line_words.LineWord.{LineWord}
use Rattle.report.specs.WordTexts.{word_text}
use Rattle.std.proofs.lemmas.List.{get_or_default}
use Rattle.terms.proofs.Lists.{flat_next}

-- what one item more adds, and its text
pub grown_more : {X Y : Type 0} (f : X → List Y) (xs : List X) (i : ℕ) (x : X) (old mid new : List Y) → i < length xs
    → x ≡ get_or xs i x → mid ≡ old ++ flat_map f (take i xs) → new ≡ mid ++ f x
    → new ≡ old ++ flat_map f (take (i + 1) xs)
grown_more f xs i x old mid new below at before more =
    more ∙ ap (λ l. l ++ f x) before ∙ append_assoc old (flat_map f (take i xs)) (f x)
    ∙ ap (λ l. old ++ l) (sym (flat_next f xs i x below at))

pub flat_more : {X : Type 0} (f : X → List ℕ) (xs : List X) (i : ℕ) (x : X) (old mid new : List ℕ) → i < length xs
    → x ≡ get_or xs i x → mid ≡ old ++ flat_map f (take i xs) → new ≡ mid ++ f x
    → new ≡ old ++ flat_map f (take (i + 1) xs)
flat_more f = grown_more f

-- the texts of one element more
pub flat_map_more : {X : Type 0} (f : X → List ℕ) (xs : List X) (i : ℕ) (d : X) → i < length xs
    → flat_map f (take i xs) ++ f (get_or xs i d) ≡ flat_map f (take (i + 1) xs)
flat_map_more f xs i d below =
    sym (flat_next f xs i (get_or xs i d) below (get_or_default xs i d (get_or xs i d) below))

-- the first word, the others, each behind a blank, and the newline
pub words_put : (start : List ℕ) (words : List LineWord)
    → start ++ (flat_map (λ w. 32 ∷ word_text w) words ++ 10 ∷ []) ≡ words_line (start ∷ map word_text words)
words_put start words =
    sym (append_assoc start (flat_map (λ w. 32 ∷ word_text w) words) (10 ∷ []))
    ∙ ap (λ t. (start ++ t) ++ 10 ∷ []) (sym (flat_map-map (λ w. 32 ∷ w) word_text words))
    ∙ ap (λ t. t ++ 10 ∷ []) (joined 32 start (map word_text words))

pub max_parts : (a b c : ℕ) → max (max a b) c ≡ max a (max b c)
max_parts a b c = omega arith

-- the codes of one line more
pub codes_more : (lines : List ReportLine) (i : ℕ) (d : ReportLine) (code : ℕ) → i < length lines
    → max (max code (line_code (line_view (get_or lines i d)))) (lines_code (map line_view (drop (i + 1) lines)))
    ≡ max code (lines_code (map line_view (drop i lines)))
codes_more lines i d code below =
    max_parts code (line_code (line_view (get_or lines i d))) (lines_code (map line_view (drop (i + 1) lines)))
    ∙ sym (ap (λ xs. max code (lines_code (map line_view xs)))
    (drop-cons lines i d below ∙ ap (λ k. get_or lines i d ∷ drop k lines) (sym (add-one i))))
