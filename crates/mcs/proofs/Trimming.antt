-- The blanks at both ends of a text.
use Rattle.std.proofs.Common.{◌≡◌, ◌<◌, ℕ, [], ◌∷◌, ◌++◌, refl, sym, ◌∙◌, ap, subst, append_assoc, IsUtf8, arith}
use Rattle.std.specs.Prelude.{All, reverse}
use Rattle.std.proofs.lemmas.List.{reverse-append}
use Rattle.std.proofs.lemmas.List.Elements.{All-nil, All-cons, All-head, All-append}
use Rattle.std.proofs.lemmas.Str.{IsUtf8-from_ascii}
use Rattle.std.proofs.lemmas.Str.Ascii.{IsAscii-from_all}
use Rattle.terms.specs.Types.{Text}
use Rattle.terms.specs.Records.{IsPrintable}
use Rattle.terms.specs.Forms.{AreBlanks, BeginsDark, IsTrimmed}
use Rattle.terms.proofs.Each.{All_front, All_back}
use Rattle.mcs.specs.Trimmed.{SkipsSomeBlanks, DropsBlanks}

pub skips_more : (text rest next : Text) (b : ℕ) → SkipsSomeBlanks text rest → rest ≡ b ∷ next → b ≡ 32
    → SkipsSomeBlanks text next
skips_more text rest next b s e blank = record {
  left = s.left ++ b ∷ [];
  text_is = s.text_is ∙ ap (λ r. s.left ++ r) e ∙ sym (append_assoc s.left (b ∷ []) next);
  blanks = All-append (λ c. c ≡ 32) s.left (b ∷ []) s.blanks
      (All-cons (λ c. c ≡ 32) b [] blank (All-nil (λ c. c ≡ 32)));
}

turned : (text : Text) → reverse text ≡ [] → text ≡ []
turned [] e = refl
turned (b ∷ text) e = absurd (ends (reverse text) b (sym (reverse-append (b ∷ []) text) ∙ e))
  where
    ends : (xs : Text) (b : ℕ) → xs ++ (b ∷ []) ≡ [] → ⊥
    ends [] b e = cc (e)
    ends (x ∷ xs) b e = cc (e)

no_dark : (cut : Text) → AreBlanks cut → BeginsDark cut → ⊥
no_dark [] h d = d
no_dark (b ∷ cut) h d = d (All-head (λ c. c ≡ 32) b cut h)

-- A text of blanks alone has no cut.
pub no_cut : (text inner cut other : Text) → SkipsSomeBlanks text inner → DropsBlanks inner cut → cut ≡ []
    → IsTrimmed text other → ⊥
no_cut text inner cut other s d none t =
    let inner_is : inner ≡ d.right = d.text_is ∙ ap (λ c. c ++ d.right) none in
    let all : AreBlanks text = subst AreBlanks (sym (s.text_is ∙ ap (λ r. s.left ++ r) inner_is))
    (All-append (λ c. c ≡ 32) s.left d.right s.blanks d.blanks) in
    let front = All_front (λ c. c ≡ 32) (t.0 ++ other) t.1 (subst AreBlanks t.2 all) in
    no_dark other (All_back (λ c. c ≡ 32) t.0 other front) t.5

below : (b : ℕ) → IsPrintable b → b < 128
below b h = grind (arith, h.1)

printable_utf8 : (text : Text) → All IsPrintable text → IsUtf8 text
printable_utf8 text h = IsUtf8-from_ascii text (IsAscii-from_all text (λ i d within. below _ (h i d within)))

-- The cut of a printable text is a string.
pub cut_utf8 : (text cut : Text) → All IsPrintable text → IsTrimmed text cut → IsUtf8 cut
cut_utf8 text cut h t =
    let front = All_front IsPrintable (t.0 ++ cut) t.1 (subst (All IsPrintable) t.2 h) in
    printable_utf8 cut (All_back IsPrintable t.0 cut front)
