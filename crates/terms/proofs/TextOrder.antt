-- Texts that are the same or not, by the test of it and by their order.
use Rattle.std.proofs.Common.{◌≡◌, ◌≢◌, ◌⊎◌, inl, inr, ℕ, Bool, true, false, List, refl, sym, ap, ◌∙◌, true≢false}
use Rattle.std.specs.declared.cmp.Ordering.TheVariants.{Less}
use Rattle.std.specs.Ordering.{is_eq, nat_cmp}
use Rattle.std.specs.Cmp.Lexicographic.{slice_cmp}
use Rattle.std.specs.Str.{bytes_eq}
use Rattle.std.proofs.lemmas.Bool.{false_from_ne_true}
use Rattle.std.proofs.lemmas.Map.Text.{is_eq-slice_cmp}
use Rattle.std.proofs.lemmas.Slice.Eq.{bytes_eq-Decides}

-- texts that the test takes for the same
pub same_from : (x y : List ℕ) → bytes_eq x y ≡ true → x ≡ y
same_from x y e = (bytes_eq-Decides x y).0 e

pub same_itself : (x : List ℕ) → bytes_eq x x ≡ true
same_itself x = (bytes_eq-Decides x x).1 refl

pub same_back : (x y : List ℕ) → bytes_eq x y ≡ bytes_eq y x
same_back x y = by (bytes_eq x y) (bytes_eq y x) refl refl
  where
    by : (b c : Bool) → bytes_eq x y ≡ b → bytes_eq y x ≡ c → b ≡ c
    by true true e f = refl
    by true false e f = absurd (true≢false (sym ((bytes_eq-Decides y x).1 (sym (same_from x y e))) ∙ f))
    by false true e f = absurd (true≢false (sym ((bytes_eq-Decides x y).1 (sym (same_from y x f))) ∙ e))
    by false false e f = refl

pub same_or_not : (x y : List ℕ) → (x ≡ y) ⊎ (x ≢ y)
same_or_not x y = by (bytes_eq x y) refl
  where
    by : (b : Bool) → bytes_eq x y ≡ b → (x ≡ y) ⊎ (x ≢ y)
    by true e = inl (same_from x y e)
    by false e = inr (λ same. true≢false (sym ((bytes_eq-Decides x y).1 same) ∙ e))

-- and for others
pub other_text : (x y : List ℕ) → x ≢ y → bytes_eq x y ≡ false
other_text x y other = false_from_ne_true (bytes_eq x y) (λ e. other (same_from x y e))

pub other_from_less : (x y : List ℕ) → slice_cmp nat_cmp x y ≡ Less → bytes_eq x y ≡ false
other_from_less x y less = sym (is_eq-slice_cmp x y) ∙ ap is_eq less
