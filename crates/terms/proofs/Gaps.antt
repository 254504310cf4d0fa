-- Texts that begin with no blank, comma or whole comment.
use Rattle.std.specs.Prelude.{◌==◌, ◌&&◌, ◌||◌, slice_index, not}
use Rattle.std.proofs.Common.{◌≡◌, ℕ, Bool, true, false, [], ◌∷◌, Option, Some, None, eq-eqb, ◌≢◌, refl, sym, ◌∙◌, ap}
use Rattle.std.proofs.lemmas.Bool.{true≢false, false≢true, false_from_ne_true, and_parts, and_from, eqb-true, ne_eqb}
use Rattle.terms.specs.Types.{Text}
use Rattle.terms.specs.Statement.{Blank, Comment, Stray, TakesPiece, is_blank, behind_close, OpensComment}
use Rattle.terms.specs.Forms.{is_word_byte}
use Rattle.terms.specs.CommandCuts.{BeginsNoGap}

-- A text that begins with no gap begins with no blank, and with no comment that closes.
pub dark_first : (text next : Text) (b : ℕ) → BeginsNoGap text → text ≡ b ∷ next → is_blank b ≡ false
dark_first text next b no_gap text_is =
    false_from_ne_true (is_blank b) (λ blank. false≢true (no_gap Blank next (b, text_is, blank)))

closed_comment : (text inside : Text) (o : Option Text) → BeginsNoGap text → text ≡ 47 ∷ 42 ∷ inside
    → behind_close inside ≡ o → behind_close inside ≡ None
closed_comment text inside None no_gap text_is e = e
closed_comment text inside (Some after) no_gap text_is e = absurd
    (false≢true (no_gap Comment after (inside, text_is, e)))

star_next : (next : Text) → (slice_index next 0 == 42) ≡ true → (inside : Text) × (next ≡ 42 ∷ inside)
star_next [] e = absurd (false≢true e)
star_next (c ∷ inside) e = (inside, ap (λ x. x ∷ inside) (eqb-true c 42 e))

pub opens_comment : (text next : Text) (b : ℕ) → BeginsNoGap text → text ≡ b ∷ next
    → (b == 47 && slice_index next 0 == 42) ≡ true → OpensComment text
opens_comment text next b no_gap text_is opens =
    let parts = and_parts (b == 47) (slice_index next 0 == 42) opens in
    let star = star_next next parts.1 in
    let b_is = eqb-true b 47 parts.0 in
    let text_is' : text ≡ 47 ∷ 42 ∷ star.0 = cc (text_is, star.1, b_is) in
    (star.0, text_is', closed_comment text star.0 (behind_close star.0) no_gap text_is' refl)

stray_test : (w k p q r : Bool) → w ≡ false → k ≡ false → p ≡ false → q ≡ false → r ≡ false
    → not (w || k || p || q || r) ≡ true
stray_test w k p q r w_is k_is p_is q_is r_is = rw (w_is, k_is, p_is, q_is, r_is) refl

no_star : (b : ℕ) (next : Text) → (b == 47 && slice_index next 0 == 42) ≡ false → b ≡ 47 → slice_index next 0 ≡ 42 → ⊥
no_star b next e b_is star = true≢false (sym (and_from (b == 47) (slice_index next 0 == 42) (eq-eqb b 47 b_is)
    (eq-eqb (slice_index next 0) 42 star)) ∙ e)

pub takes_stray : (text next : Text) (b : ℕ) → BeginsNoGap text → text ≡ b ∷ next → is_word_byte b ≡ false → b ≢ 46
    → b ≢ 41 → b ≢ 40 → (b == 47 && slice_index next 0 == 42) ≡ false → TakesPiece text (Stray b) next
takes_stray text next b no_gap text_is no_word no_period no_close no_open no_comment = (
  text_is,
  stray_test (is_word_byte b) (is_blank b) (b == 40) (b == 41) (b == 46) no_word (dark_first text next b no_gap text_is)
      (ne_eqb b 40 no_open) (ne_eqb b 41 no_close) (ne_eqb b 46 no_period),
  no_star b next no_comment,
)
