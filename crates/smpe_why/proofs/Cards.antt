-- A text as records, byte by byte.
use Rattle.std.proofs.Common.{◌≡◌, ◌∙◌, ◌≤◌, ◌<◌, ◌+◌, ◌-◌, ℕ, Bool, true, false, List, [], ◌∷◌, ◌++◌, ap, sym, arith}
use Rattle.std.proofs.Common.{append_assoc, drop, drop-cons, get_or, length, add-one}
use Rattle.std.specs.Prelude.{replicate, nat_lt, ◌&&◌, if◌then◌else◌}
use Rattle.std.proofs.lemmas.Bool.Decides.{nat_tests}
use Rattle.terms.specs.Statement.{is_blank}
use Rattle.smpe_why.specs.BypassText.{carded, is_carded}

-- what a byte adds to the file, and the columns after it
abbrev added : ℕ → ℕ → List ℕ
added b column = b ∷ (if is_blank b then replicate (80 - (column + 1)) 32 else [])

abbrev after : ℕ → ℕ → ℕ
after b column = if is_blank b then 0 else column + 1

one_byte : (file : List ℕ) (column b : ℕ) (bs : List ℕ)
    → (file ++ added b column) ++ carded (after b column) bs ≡ file ++ carded column (b ∷ bs)
one_byte file column b bs = by (is_blank b)
  where
    by : (q : Bool)
        → (file ++ b ∷ (if q then replicate (80 - (column + 1)) 32 else [])) ++ carded (if q then 0 else column + 1) bs
        ≡ file ++ b ∷ (if q then replicate (80 - (column + 1)) 32 ++ carded 0 bs else carded (column + 1) bs)
    by true = append_assoc file (b ∷ replicate (80 - (column + 1)) 32) (carded 0 bs)
    by false = append_assoc file (b ∷ []) (carded (column + 1) bs)

below : (column : ℕ) → column < 72 → nat_lt column 72 ≡ true
below column less = grind (arith, nat_tests, less)

not_below : (column : ℕ) → 72 ≤ column → nat_lt column 72 ≡ false
not_below column more = grind (arith, nat_tests, more)

-- the bytes from a place on
abbrev rest : List ℕ → ℕ → List ℕ
rest text i = drop i text

rest_is : (text : List ℕ) (i b : ℕ) → i < length text → b ≡ get_or text i b → rest text i ≡ b ∷ rest text (i + 1)
rest_is text i b less at =
    drop-cons text i b less ∙ ap (λ k. get_or text i b ∷ drop k text) (sym (add-one i))
    ∙ ap (λ v. v ∷ drop (i + 1) text) (sym at)

pub file_more : (text : List ℕ) (i b column : ℕ) (old new : List ℕ) (next : ℕ) → i < length text → b ≡ get_or text i b
    → old ++ carded column (rest text i) ≡ carded 0 text → new ≡ old ++ added b column → next ≡ after b column
    → new ++ carded next (rest text (i + 1)) ≡ carded 0 text
file_more text i b column old new next less at before made is =
    ap (λ f. f ++ carded next (rest text (i + 1))) made
    ∙ ap (λ n. (old ++ added b column) ++ carded n (rest text (i + 1))) is
    ∙ one_byte old column b (rest text (i + 1))
    ∙ ap (λ l. old ++ carded column l) (sym (rest_is text i b less at))
    ∙ before

pub fits_more : (text : List ℕ) (i b column next : ℕ) → i < length text → b ≡ get_or text i b → column < 72
    → is_carded column (rest text i) ≡ is_carded 0 text → next ≡ after b column
    → is_carded next (rest text (i + 1)) ≡ is_carded 0 text
fits_more text i b column next less at within before is =
    ap (λ n. is_carded n (rest text (i + 1))) is
    ∙ ap (λ q. q && is_carded (after b column) (rest text (i + 1))) (sym (below column within))
    ∙ ap (is_carded column) (sym (rest_is text i b less at))
    ∙ before

pub too_long : (text : List ℕ) (i b column : ℕ) → i < length text → b ≡ get_or text i b → 72 ≤ column
    → is_carded column (rest text i) ≡ is_carded 0 text → is_carded 0 text ≡ false
too_long text i b column less at more before =
    sym before ∙ ap (is_carded column) (rest_is text i b less at)
    ∙ ap (λ q. q && is_carded (after b column) (rest text (i + 1))) (not_below column more)
