-- Control records, cut into their parts.
use Rattle.std.proofs.Common.{◌≡◌, ◌≢◌, ◌≤◌, ◌==◌, ℕ, Bool, true, false, not, List, [], ◌∷◌, ◌++◌, length, take}
use Rattle.std.proofs.Common.{drop, codes, sym, ◌∙◌, ap, subst, append_assoc, Option, None, Some}
use Rattle.std.proofs.Common.{MatchOption, IfSome, IfNone, Bor}
use Rattle.std.specs.Str.{bytes_eq}
use Rattle.std.proofs.lemmas.Slice.Eq.{bytes_eq-Decides}
use Rattle.std.specs.Str.Parse.{digits_value}
use Rattle.std.proofs.lemmas.Bool.{eqb-true}
use Rattle.std.proofs.lemmas.List.{append_cancel_left, take_at, drop_at, take-append-drop}
use Rattle.std.proofs.lemmas.List.{nil_from_length}
use Rattle.terms.specs.Records.{front}
use Rattle.terms.specs.Texts.{IsControl, IsNumber, IsRange}
use Rattle.terms.proofs.Controls.{is_blank, is_solid, StartsOutside, IsCuts, same_cuts, cuts_from}
use Rattle.text80.specs.Cuts.{IsCut}

-- what `strip_prefix` says, for each variant
pub some_behind : (text prefix : List ℕ) (r : Option (Bor (List ℕ)))
    → MatchOption r ((rest : List ℕ) → text ≢ prefix ++ rest) (λ x. text ≡ prefix ++ x.now)
    → IfSome r (λ x. text ≡ prefix ++ x.now)
some_behind text prefix None h = tt
some_behind text prefix (Some x) h = h

pub none_behind : (text prefix : List ℕ) (r : Option (Bor (List ℕ)))
    → MatchOption r ((rest : List ℕ) → text ≢ prefix ++ rest) (λ x. text ≡ prefix ++ x.now)
    → IfNone r ((rest : List ℕ) → text ≢ prefix ++ rest)
none_behind text prefix None h = h
none_behind text prefix (Some x) h = tt

-- what follows under `None`
pub none_then : {X : Type 0} (r : Option X) (P Q : Type 0) → IfNone r P → (P → Q) → IfNone r Q
none_then None P Q h then = then h
none_then (Some x) P Q h then = tt

-- two texts that `!=` tells apart
pub differ : (x y : List ℕ) (b : Bool) → b ≡ not (bytes_eq x y) → b ≡ true → x ≡ y → ⊥
differ x y b is yes' same = let e = (bytes_eq-Decides x y).1 same in absurd (cc (ap not e))

-- five cuts, one behind the other
pub joined : (t g t1 w t2 h t3 o t4 r t5 : List ℕ) → IsCut is_blank t g t1 → IsCut is_solid t1 w t2
    → IsCut is_blank t2 h t3 → IsCut is_solid t3 o t4 → IsCut is_blank t4 r t5 → IsCuts t g w h o r t5
joined t g t1 w t2 h t3 o t4 r t5 c1 c2 c3 c4 c5 =
    let e4 : t3 ≡ o ++ (r ++ t5) = c4.text_is ∙ ap (λ x. o ++ x) c5.text_is in
    let e3 : t2 ≡ h ++ (o ++ (r ++ t5)) = c3.text_is ∙ ap (λ x. h ++ x) e4 in
    let e2 : t1 ≡ w ++ (h ++ (o ++ (r ++ t5))) = c2.text_is ∙ ap (λ x. w ++ x) e3 in
    record {
      text_is = c1.text_is ∙ ap (λ x. g ++ x) e2;
      gap_blank = c1.passes;
      gap_ends = subst (StartsOutside is_blank) e2 c1.ends;
      word_solid = c2.passes;
      word_ends = subst (StartsOutside is_solid) e3 c2.ends;
      gap2_blank = c3.passes;
      gap2_ends = subst (StartsOutside is_blank) e4 c3.ends;
      operand_solid = c4.passes;
      operand_ends = subst (StartsOutside is_solid) c5.text_is c4.ends;
      rest_blank = c5.passes;
      rest_ends = c5.ends;
    }

-- The cuts of a control record find its parts.
pub record AreParts (g w h o t word operand : List ℕ) : Type 0 where
  pub gap : g ≢ []
  pub word_some : w ≢ []
  pub gap2 : h ≢ []
  pub operand_some : o ≢ []
  pub end : t ≡ []
  pub word_is : w ≡ word
  pub operand_is : o ≡ operand

pub parts_from : (line t g w h o r end : List ℕ) → front line ≡ codes "./" ++ t → IsCuts t g w h o r end
    → (word operand : List ℕ) → IsControl word operand line → AreParts g w h o end word operand
parts_from line t g w h o r end e cuts word operand c =
    let same = same_cuts t g w h o r end _ _ _ _ _ _ cuts (cuts_from word operand line t c e) in
    record {
      gap = λ none. c.gaps.0.0 (sym same.gap ∙ none);
      word_some = λ none. c.solid.0.0 (sym same.word ∙ none);
      gap2 = λ none. c.gaps.1.0 (sym same.gap2 ∙ none);
      operand_some = λ none. c.solid.1.0 (sym same.operand ∙ none);
      end = same.end;
      word_is = same.word;
      operand_is = same.operand;
    }

pub empty_from : (text : List ℕ) (b : Bool) → b ≡ (length text == 0) → b ≡ true → text ≡ []
empty_from text b is yes' = nil_from_length text (eqb-true (length text) 0 (sym is ∙ yes'))

pub some_from : (text : List ℕ) (b : Bool) → b ≡ (length text == 0) → b ≡ false → text ≢ []
some_from [] b is no' e = cc
some_from (x ∷ text) b is no' e = absurd (cc e)

-- a range, from the parts of its operand
pub range_from : (operand text tail to : List ℕ) (low high : ℕ) → operand ≡ codes "SEQ1=" ++ text → tail ≡ drop 8 text
    → tail ≡ codes ",SEQ2=" ++ to → IsNumber (take 8 text) → IsNumber to → low ≡ digits_value 10 (take 8 text)
    → high ≡ digits_value 10 to → low ≤ high → IsRange operand low high
range_from operand text tail to low high o t e from upto l h order = record {
  from = take 8 text;
  to = to;
  numbers = (from, upto);
  operand_is = o ∙ ap (λ x. codes "SEQ1=" ++ x)
      (sym (take-append-drop 8 text) ∙ ap (λ x. take 8 text ++ x) (sym t ∙ e)) ∙ simp append_assoc;
  low_is = l;
  high_is = h;
  order = order;
}

-- the operand of a range behind `SEQ1=`
pub range_parts : (operand text : List ℕ) (low high : ℕ) → (r : IsRange operand low high)
    → operand ≡ codes "SEQ1=" ++ text → (take 8 text ≡ r.from) × (drop 8 text ≡ codes ",SEQ2=" ++ r.to)
range_parts operand text low high r e =
    let f : codes "SEQ1=" ++ text ≡ codes "SEQ1=" ++ (r.from ++ (codes ",SEQ2=" ++ r.to)) =
    sym e ∙ r.operand_is ∙ simp append_assoc in
    let text_is = append_cancel_left (codes "SEQ1=") _ _ f in
    (ap (take 8) text_is ∙ take_at r.from _ 8 r.numbers.0.0, ap (drop 8) text_is ∙ drop_at r.from _ 8 r.numbers.0.0)

-- what follows `,SEQ2=` is its upper number
pub range_end : (operand text tail to : List ℕ) (low high : ℕ) → (r : IsRange operand low high)
    → operand ≡ codes "SEQ1=" ++ text → tail ≡ drop 8 text → tail ≡ codes ",SEQ2=" ++ to → to ≡ r.to
range_end operand text tail to low high r e t f =
    append_cancel_left (codes ",SEQ2=") _ _ (sym f ∙ t ∙ (range_parts operand text low high r e).1)
