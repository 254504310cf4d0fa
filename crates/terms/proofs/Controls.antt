-- Control records of updates: their word and operand are determined, and so are the numbers of a DELETE record.
use Rattle.std.proofs.Common.{◌≡◌, ◌≢◌, ℕ, Bool, true, false, not, [], ◌∷◌, ◌++◌, take, drop, codes, refl, sym, ◌∙◌, ap}
use Rattle.std.proofs.Common.{subst, append_assoc, slice_get, IfSome}
use Rattle.std.specs.List.{All, AllByRecursion}
use Rattle.std.specs.Prelude.{IsTrue, ◌==◌}
use Rattle.std.specs.Str.Parse.{digits_value}
use Rattle.std.proofs.lemmas.List.{append-nil, append_cancel_left, take_at, drop_at}
use Rattle.std.proofs.lemmas.List.Elements.{All-weaker, All-head, recursion_from_All}
use Rattle.std.specs.Str.{bytes_eq}
use Rattle.std.proofs.lemmas.Bool.{true≢false, eq-eqb, ne_eqb, eqb-true, eqb-false, not-true, not_from_false}
use Rattle.terms.specs.Types.{Text}
use Rattle.terms.specs.Forms.{AreBlanks}
use Rattle.terms.specs.Records.{front}
use Rattle.terms.specs.Texts.{IsGap, IsSolid, IsControl, IsChange, IsRange, IsDelete, is_control}

abbrev pub is_blank : ℕ → Bool
is_blank b = b == 32

abbrev pub is_solid : ℕ → Bool
is_solid b = not (b == 32)

-- nothing, or a byte first that fails the test
abbrev pub StartsOutside : (ℕ → Bool) → Text → Type 0
StartsOutside test text = IfSome (slice_get text 0) (λ b. test b ≡ false)

same_cut : (test : ℕ → Bool) (a b x y : Text) → AllByRecursion (λ c. test c ≡ true) a
    → AllByRecursion (λ c. test c ≡ true) b → StartsOutside test x → StartsOutside test y → a ++ x ≡ b ++ y
    → (a ≡ b) × (x ≡ y)
same_cut test [] [] x y h k f g e = (refl, e)
same_cut test [] (c ∷ b) [] y h k f g e = absurd (cc e)
same_cut test [] (c ∷ b) (d ∷ x) y h k f g e = let same : d ≡ c = cc e in absurd (cc (ap test same, f, k.0))
same_cut test (c ∷ a) [] x [] h k f g e = absurd (cc e)
same_cut test (c ∷ a) [] x (d ∷ y) h k f g e = let same : c ≡ d = cc e in absurd (cc (ap test same, g, h.0))
same_cut test (c ∷ a) (d ∷ b) x y h k f g e =
    let tails : a ++ x ≡ b ++ y = cc e in
    let r = same_cut test a b x y h.1 k.1 f g tails in
    ((let one : c ≡ d = cc e in let two = r.0 in cc), r.1)

-- A text cut five times, behind its longest fronts of blanks, other bytes, and so on.
pub record IsCuts (text gap word gap2 operand rest end : Text) : Type 0 where
  pub text_is : text ≡ gap ++ (word ++ (gap2 ++ (operand ++ (rest ++ end))))
  pub gap_blank : All (λ b. is_blank b ≡ true) gap
  pub gap_ends : StartsOutside is_blank (word ++ (gap2 ++ (operand ++ (rest ++ end))))
  pub word_solid : All (λ b. is_solid b ≡ true) word
  pub word_ends : StartsOutside is_solid (gap2 ++ (operand ++ (rest ++ end)))
  pub gap2_blank : All (λ b. is_blank b ≡ true) gap2
  pub gap2_ends : StartsOutside is_blank (operand ++ (rest ++ end))
  pub operand_solid : All (λ b. is_solid b ≡ true) operand
  pub operand_ends : StartsOutside is_solid (rest ++ end)
  pub rest_blank : All (λ b. is_blank b ≡ true) rest
  pub rest_ends : StartsOutside is_blank end

-- the parts of two texts are the same
pub record SameParts (g w h o t g' w' h' o' t' : Text) : Type 0 where
  pub gap : g ≡ g'
  pub word : w ≡ w'
  pub gap2 : h ≡ h'
  pub operand : o ≡ o'
  pub end : t ≡ t'

pub same_cuts : (text g w h o r t g' w' h' o' r' t' : Text) → IsCuts text g w h o r t → IsCuts text g' w' h' o' r' t'
    → SameParts g w h o t g' w' h' o' t'
same_cuts text g w h o r t g' w' h' o' r' t' c d =
    let Blank : ℕ → Type 0 = λ b. is_blank b ≡ true in
    let Solid : ℕ → Type 0 = λ b. is_solid b ≡ true in
    let one = same_cut is_blank g g' _ _ (recursion_from_All Blank g c.gap_blank)
    (recursion_from_All Blank g' d.gap_blank) c.gap_ends d.gap_ends (sym c.text_is ∙ d.text_is) in
    let two = same_cut is_solid w w' _ _ (recursion_from_All Solid w c.word_solid)
    (recursion_from_All Solid w' d.word_solid) c.word_ends d.word_ends one.1 in
    let three = same_cut is_blank h h' _ _ (recursion_from_All Blank h c.gap2_blank)
    (recursion_from_All Blank h' d.gap2_blank) c.gap2_ends d.gap2_ends two.1 in
    let four = same_cut is_solid o o' _ _ (recursion_from_All Solid o c.operand_solid)
    (recursion_from_All Solid o' d.operand_solid) c.operand_ends d.operand_ends three.1 in
    let five = same_cut is_blank r r' _ _ (recursion_from_All Blank r c.rest_blank)
    (recursion_from_All Blank r' d.rest_blank) c.rest_ends d.rest_ends four.1 in
    record { gap = one.0; word = two.0; gap2 = three.0; operand = four.0; end = five.1 }

blanks_from : (text : Text) → AreBlanks text → All (λ b. is_blank b ≡ true) text
blanks_from text h = All-weaker (λ b. b ≡ 32) (λ b. is_blank b ≡ true) (λ b e. eq-eqb b 32 e) text h

solid_from : (text : Text) → All (λ b. b ≢ 32) text → All (λ b. is_solid b ≡ true) text
solid_from text h = All-weaker (λ b. b ≢ 32) (λ b. is_solid b ≡ true) (λ b e. not_from_false (b == 32) (ne_eqb b 32 e))
    text h

pub blanks_to : (text : Text) → All (λ b. is_blank b ≡ true) text → AreBlanks text
blanks_to text h = All-weaker (λ b. is_blank b ≡ true) (λ b. b ≡ 32) (λ b e. eqb-true b 32 e) text h

pub solid_to : (text : Text) → All (λ b. is_solid b ≡ true) text → All (λ b. b ≢ 32) text
solid_to text h = All-weaker (λ b. is_solid b ≡ true) (λ b. b ≢ 32) (λ b e. eqb-false b 32 (not-true (b == 32) e)) text
    h

starts_solid : (text more : Text) → IsSolid text → StartsOutside is_blank (text ++ more)
starts_solid [] more h = absurd (h.0 refl)
starts_solid (b ∷ bs) more h = ne_eqb b 32 (All-head (λ c. c ≢ 32) b bs h.1)

starts_blank : (text more : Text) → IsGap text → StartsOutside is_solid (text ++ more)
starts_blank [] more h = absurd (h.0 refl)
starts_blank (b ∷ bs) more h = ap not (eq-eqb b 32 (All-head (λ c. c ≡ 32) b bs h.1))

starts_end : (text : Text) → AreBlanks text → StartsOutside is_solid (text ++ [])
starts_end [] h = tt
starts_end (b ∷ bs) h = ap not (eq-eqb b 32 (All-head (λ c. c ≡ 32) b bs h))

-- a control record, cut
pub cuts_from : (word operand line text : Text) → (c : IsControl word operand line) → front line ≡ codes "./" ++ text
    → IsCuts text c.gap word c.gap2 operand c.rest []
cuts_from word operand line text c e = record {
  text_is = append_cancel_left (codes "./") _ _ (sym e ∙ c.text ∙ simp (append_assoc, append-nil));
  gap_blank = blanks_from c.gap c.gaps.0.1;
  gap_ends = starts_solid word _ c.solid.0;
  word_solid = solid_from word c.solid.0.1;
  word_ends = starts_blank c.gap2 _ c.gaps.1;
  gap2_blank = blanks_from c.gap2 c.gaps.1.1;
  gap2_ends = starts_solid operand _ c.solid.1;
  operand_solid = solid_from operand c.solid.1.1;
  operand_ends = starts_end c.rest c.gaps.2;
  rest_blank = blanks_from c.rest c.gaps.2;
  rest_ends = tt;
}

-- a record that is cut so is a control record
pub control_from : (line text gap word gap2 operand rest : Text) → front line ≡ codes "./" ++ text
    → IsCuts text gap word gap2 operand rest [] → gap ≢ [] → word ≢ [] → gap2 ≢ [] → operand ≢ []
    → IsControl word operand line
control_from line text gap word gap2 operand rest e c g w h o = record {
  gap = gap;
  gap2 = gap2;
  rest = rest;
  gaps = ((g, blanks_to gap c.gap_blank), (h, blanks_to gap2 c.gap2_blank), blanks_to rest c.rest_blank);
  solid = ((w, solid_to word c.word_solid), (o, solid_to operand c.operand_solid));
  text = e ∙ ap (λ t. codes "./" ++ t) c.text_is ∙ simp (append_assoc, append-nil);
}

-- the text behind `./`
behind : (word operand line : Text) → (c : IsControl word operand line)
    → (text : Text) × (front line ≡ codes "./" ++ text)
behind word operand line c = (c.gap ++ (word ++ (c.gap2 ++ (operand ++ c.rest))), c.text ∙ simp append_assoc)

-- The record determines its word and its operand.
pub same_control : (w o v p line : Text) → IsControl w o line → IsControl v p line → (w ≡ v) × (o ≡ p)
same_control w o v p line c d =
    let b = behind w o line c in
    let same = same_cuts b.0 _ _ _ _ _ _ _ _ _ _ _ _ (cuts_from w o line b.0 c b.1) (cuts_from v p line b.0 d b.1) in
    (same.word, same.operand)

-- A control record begins with `./`.
begins : (line text : Text) → take 72 line ≡ codes "./" ++ text → IsTrue (is_control line)
begins [] text e = absurd (cc e)
begins (a ∷ []) text e = absurd (cc e)
begins (a ∷ b ∷ line) text e =
    let one : 46 ≡ a = cc e in
    let two : 47 ≡ b = cc e in
    subst (λ x. IsTrue (is_control (x ∷ b ∷ line))) one (subst (λ x. IsTrue (is_control (46 ∷ x ∷ line))) two refl)

pub begins_control : (word operand line : Text) → IsControl word operand line → IsTrue (is_control line)
begins_control word operand line c = let b = behind word operand line c in begins line b.0 b.1

other_words : codes "CHANGE" ≡ codes "DELETE" → ⊥
other_words e = true≢false (ap (bytes_eq (codes "CHANGE")) e)

-- No CHANGE record is a DELETE record.
pub change_no_delete : (name line : Text) (low high : ℕ) → IsChange name line → IsDelete low high line → ⊥
change_no_delete name line low high c d =
    other_words (same_control _ _ _ _ line c d.1).0

-- The operand determines its numbers.
pub same_range : (operand : Text) (low high low' high' : ℕ) → IsRange operand low high → IsRange operand low' high'
    → (low ≡ low') × (high ≡ high')
same_range operand low high low' high' r s =
    let e = sym r.operand_is ∙ s.operand_is in
    let f : codes "SEQ1=" ++ (r.from ++ (codes ",SEQ2=" ++ r.to)) ≡ codes "SEQ1="
    ++ (s.from ++ (codes ",SEQ2=" ++ s.to)) = simp append_assoc at e in
    let tails = append_cancel_left (codes "SEQ1=") _ _ f in
    let from : r.from ≡ s.from = sym (take_at r.from _ 8 r.numbers.0.0) ∙ ap (take 8) tails
    ∙ take_at s.from _ 8 s.numbers.0.0 in
    let rest = sym (drop_at r.from _ 8 r.numbers.0.0) ∙ ap (drop 8) tails ∙ drop_at s.from _ 8 s.numbers.0.0 in
    let to : r.to ≡ s.to = append_cancel_left (codes ",SEQ2=") _ _ rest in
    (r.low_is ∙ ap (digits_value 10) from ∙ sym s.low_is, r.high_is ∙ ap (digits_value 10) to ∙ sym s.high_is)

pub same_delete : (line : Text) (low high low' high' : ℕ) → IsDelete low high line → IsDelete low' high' line
    → (low ≡ low') × (high ≡ high')
same_delete line low high low' high' c d =
    let same = (same_control _ _ _ _ line c.1 d.1).1 in
    same_range d.0 low high low' high' (subst (λ o. IsRange o low high) same c.2) d.2
